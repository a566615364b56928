-- A text that is cut is text, a beginning, no longer than it may be, and cut once for all. Assumes nothing.
use Rattle.std.proofs.Common.{◌≡◌, ℕ, zero, suc, ◌≤◌, Bool, true, false, cond, not, eqb, leb, List, [], ◌∷◌, length, get_or, take, drop, sym, refl, ap, ◌∙◌, add-zero, arith}
use Rattle.std.proofs.lemmas.List.{length-take, take_all, take-append-drop, get_or-drop, nil_from_length}
use Rattle.std.proofs.lemmas.Bool.{le-leb, eqb-true, eqb-false, not-true, cond-true, cond_both}
use Rattle.format.specs.Places.{Bytes}
use Rattle.format.specs.Recogniser.{is_text, among}
use Rattle.format.specs.Texts.{boundary, cut}
use Rattle.format.proofs.ByteLists.{bytes_take}
use Rattle.format.proofs.TextLaws.{is_text-cut}

-- a text up to a boundary is text
pub is_text-boundary : (bs : List ℕ) (n : ℕ) → is_text bs ≡ true → boundary bs n ≡ true → is_text (take n bs) ≡ true
is_text-boundary bs n t h = go (leb (length bs) n) h where
  go : (z : Bool) → cond z (eqb n (length bs)) (not (among 0x80 0xbf (get_or bs n 0))) ≡ true → is_text (take n bs) ≡ true
  go true k = let e = eqb-true n (length bs) k in ap is_text (take_all n bs (omega arith)) ∙ t
  go false k =
      is_text-cut (take n bs) (drop n bs) (ap is_text (take-append-drop n bs) ∙ t)
      (ap (among 0x80 0xbf) (get_or-drop n bs 0 0 ∙ ap (λ z. get_or bs z 0) (add-zero n)) ∙ not-true (among 0x80 0xbf (get_or bs n 0)) k)

-- what holds of every beginning that ends on a boundary, and of none, holds of a cut
each_cut : (P : List ℕ → Type 0) (bs : List ℕ) → P [] → ((n : ℕ) → boundary bs n ≡ true → P (take n bs)) → (n : ℕ) → P (cut n bs)
each_cut P bs none some zero = none
each_cut P bs none some (suc n) = cond_both (boundary bs (suc n)) (take (suc n) bs) (cut n bs) P (some (suc n)) (λ _. each_cut P bs none some n)

pub is_text_of_cut : (n : ℕ) (bs : List ℕ) → is_text bs ≡ true → is_text (cut n bs) ≡ true
is_text_of_cut n bs t = each_cut (λ z. is_text z ≡ true) bs refl (λ m e. is_text-boundary bs m t e) n

pub bytes_cut : (n : ℕ) (bs : List ℕ) → Bytes bs → Bytes (cut n bs)
bytes_cut n bs b = each_cut Bytes bs tt (λ m e. bytes_take m bs b) n

pub cut-within : (n : ℕ) (bs : List ℕ) → length (cut n bs) ≤ length bs
cut-within n bs = each_cut (λ z. length z ≤ length bs) bs (omega arith) (λ m e. simp length-take (omega arith)) n

take-length : (m : ℕ) (bs : List ℕ) → take (length (take m bs)) bs ≡ take m bs
take-length zero bs = refl
take-length (suc m) [] = refl
take-length (suc m) (b ∷ bs) = ap (λ z. b ∷ z) (take-length m bs)

pub cut_front : (n : ℕ) (bs : List ℕ) → take (length (cut n bs)) bs ≡ cut n bs
cut_front n bs = each_cut (λ z. take (length z) bs ≡ z) bs refl (λ m e. take-length m bs) n

pub cut-length : (n : ℕ) (bs : List ℕ) → length (cut n bs) ≤ n
cut-length zero bs = omega arith
cut-length (suc n) bs =
    cond_both (boundary bs (suc n)) (take (suc n) bs) (cut n bs) (λ z. length z ≤ suc n) (λ e. simp length-take (omega arith)) (λ e. let k = cut-length n bs in omega arith)

-- what is no longer than it may be stays whole
pub cut_fits : (n : ℕ) (bs : List ℕ) → length bs ≤ n → cut n bs ≡ bs
cut_fits zero bs h = sym (nil_from_length bs (omega arith))
cut_fits (suc n) bs h = cond_both (boundary bs (suc n)) (take (suc n) bs) (cut n bs) (λ z. z ≡ bs) (λ e. take_all (suc n) bs h) (λ e. cut_fits n bs (below e)) where
  below : boundary bs (suc n) ≡ false → length bs ≤ n
  below e = let ne = eqb-false (suc n) (length bs) (sym (cond-true (leb (length bs) (suc n)) _ _ (le-leb (length bs) (suc n) h)) ∙ e) in omega arith

pub cut-cut : (n : ℕ) (bs : List ℕ) → cut n (cut n bs) ≡ cut n bs
cut-cut n bs = cut_fits n (cut n bs) (cut-length n bs)
