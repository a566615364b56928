-- Laws of places: parts that an archive holds, rounding up, alignments, moves. Assumes nothing.
use Rattle.std.proofs.Common.{◌≡◌, ℕ, ◌+◌, ◌≤◌, List, ◌++◌, length, take, drop, sym, refl, ap, ◌∙◌, subst, append_assoc, arith}
use Rattle.std.proofs.lemmas.List.{length-append, length-take-le, length-drop, take_at, drop_at, take-append-le, drop-append-le, take-append-drop, drop-drop}
use Rattle.format.specs.Places.{part, Holds}

-- an archive that holds a part, taken apart: what is before it, the part, what is behind
pub record Split (a : List ℕ) (p : ℕ) (xs : List ℕ) : Type 0 where
  pub before : List ℕ
  pub behind : List ℕ
  pub is : a ≡ before ++ (xs ++ behind)
  pub long : length before ≡ p

pub holds_split : (a : List ℕ) (p : ℕ) (xs : List ℕ) → Holds a p xs → Split a p xs
holds_split a p xs h = record {
  before = take p a;
  behind = drop (length xs) (drop p a);
  is = sym (take-append-drop p a) ∙ ap (λ z. take p a ++ z) (sym (take-append-drop (length xs) (drop p a)) ∙ ap (λ z. z ++ drop (length xs) (drop p a)) h.same);
  long = let w = h.within in length-take-le p a (omega arith);
}

pub split_holds : (before xs behind : List ℕ) (p : ℕ) → length before ≡ p → Holds (before ++ (xs ++ behind)) p xs
split_holds before xs behind p e = record {
  within = let k = length-append before (xs ++ behind) in let m = length-append xs behind in omega arith;
  same = ap (take (length xs)) (drop_at before (xs ++ behind) p e) ∙ take_at xs behind (length xs) refl;
}

pub holds_at : {a b : List ℕ} {p : ℕ} {xs : List ℕ} → a ≡ b → Holds b p xs → Holds a p xs
holds_at {p = p} {xs = xs} e h = subst (λ z. Holds z p xs) (sym e) h

-- two parts in a row
module _ (a : List ℕ) (p : ℕ) (xs ys : List ℕ) where
  pub holds_left : Holds a p (xs ++ ys) → Holds a p xs
  holds_left h =
      let s = holds_split a p (xs ++ ys) h in
      holds_at (s.is ∙ ap (λ z. s.before ++ z) (append_assoc xs ys s.behind)) (split_holds s.before xs (ys ++ s.behind) p s.long)

  pub holds_right : Holds a p (xs ++ ys) → Holds a (p + length xs) ys
  holds_right h =
      let s = holds_split a p (xs ++ ys) h in
      let l : length (s.before ++ xs) ≡ p + length xs = length-append s.before xs ∙ ap (λ z. z + length xs) s.long in
      holds_at (s.is ∙ (ap (λ z. s.before ++ z) (append_assoc xs ys s.behind) ∙ sym (append_assoc s.before xs (ys ++ s.behind)))) (split_holds (s.before ++ xs) ys s.behind (p + length xs) l)

-- a part of a part
pub holds_part : (a : List ℕ) (p : ℕ) (xs : List ℕ) (q n : ℕ) → Holds a p xs → q + n ≤ length xs → part (p + q) n a ≡ part q n xs
holds_part a p xs q n h fits =
    let s = holds_split a p xs h in
    let k = length-drop q xs in
    ap (part (p + q) n) s.is ∙
    (ap (take n) (sym (drop-drop q p (s.before ++ (xs ++ s.behind))) ∙ (ap (drop q) (drop_at s.before (xs ++ s.behind) p s.long) ∙ drop-append-le q xs s.behind (omega arith))) ∙
    take-append-le n (drop q xs) s.behind (omega arith))

-- what is behind an archive does not matter to its parts
pub part-longer : (a b : List ℕ) (p n : ℕ) → p + n ≤ length a → part p n (a ++ b) ≡ part p n a
part-longer a b p n h =
    let k = length-drop p a in
    ap (take n) (drop-append-le p a b (omega arith)) ∙ take-append-le n (drop p a) b (omega arith)

pub holds_longer : (a b : List ℕ) (p : ℕ) (xs : List ℕ) → Holds a p xs → Holds (a ++ b) p xs
holds_longer a b p xs h = record {
  within = let w = h.within in let k = length-append a b in omega arith;
  same = part-longer a b p (length xs) h.within ∙ h.same;
}
