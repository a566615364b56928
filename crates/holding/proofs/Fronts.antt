-- What stands behind a mark in a sheet, by its place. Assumes nothing.
use Rattle.std.proofs.Common.{◌≡◌, ℕ, ◌+◌, ◌≤◌, List, length, take, drop, IfOk, Ok, Err, Result, sym, refl, ap, ◌∙◌, subst, arith, length-drop}
use Rattle.std.proofs.lemmas.List.{drop-drop, drop-take}
use Rattle.format.specs.Places.{stop}
use Rattle.format.specs.Answers.{Answer, Fault, good, bad, both, shifted, inside}
use Rattle.format.specs.Sheets.{marked, at_place}
use Rattle.format.specs.Meaning.{Meaning}
use Rattle.format.specs.Items.{first_of}
use Rattle.format.specs.Links.{behind}
use Rattle.format.proofs.AnswerLaws.{at_place-end, at_place_then_bad, inside-good}
use Rattle.format.proofs.SheetLaws.{marked-end}
use Rattle.kind.specs.Asked.{value_at, Next}
use Rattle.refusal.specs.Told.{told}
use Rattle.refusal.specs.declared.refusal.Refusal.{Refusal}
use Rattle.std.proofs.lemmas.Result.{IfOk-at_ok}

-- what is scanned e bytes on from a front and one level deeper, by the front's place
joined_inside : (x : Answer ℕ) (p e : ℕ) → shifted p (both (inside (shifted e (both x (λ r. good (e + r))))) (λ z. good (p + z))) ≡ inside (shifted (p + e) (both x (λ r. good (p + e + r))))
joined_inside (good r) p e = let k : p + (e + r) ≡ p + e + r = omega arith in ap good k
joined_inside (bad f) p e = let k : p + (e + f.place) ≡ p + e + f.place = omega arith in ap (λ z. bad (record { number = f.number; place = z; depth = stop (f.depth + 1) })) k

module _ (mark : List ℕ) (own : ℕ) (m : Meaning) (s : List ℕ) (p : ℕ) where
  behind-bad : (f : Fault) → at_place (marked mark own) s p ≡ bad f → at_place (behind mark own m) s p ≡ bad f
  behind-bad f h = at_place_then_bad (marked mark own) (λ v e. inside (shifted e (both (m.scan (drop e v)) (λ r. good (e + r))))) s p f h

  behind-good : (e : ℕ) → at_place (marked mark own) s p ≡ good e → at_place (behind mark own m) s p ≡ inside (at_place m.scan s e)
  behind-good e h =
      let x = at_place-end (marked mark own) s p e h in
      let o = x.0 in
      ap (λ z. shifted p (both (both z (λ e. inside (shifted e (both (m.scan (drop e (drop p s))) (λ r. good (e + r)))))) (λ z. good (p + z)))) x.1.0 ∙
      (joined_inside (m.scan (drop o (drop p s))) p o ∙
      (ap (λ z. inside (shifted (p + o) (both (m.scan z) (λ r. good (p + o + r))))) (drop-drop o p s) ∙ ap (λ z. inside (at_place m.scan s z)) (sym x.1.1)))

  -- a value that is found behind a mark
  pub record Held (q : ℕ) : Type 0 where
    pub room : p + (2 + own) ≤ length s
    pub found : Next m s (p + (2 + own)) q
    pub end : ℕ
    pub ends : behind mark own m (drop p s) ≡ good end
    pub long : 2 + own ≤ end
    pub value : drop (2 + own) (first_of (behind mark own m (drop p s)) (drop p s)) ≡ value_at m s (p + (2 + own))

  pub held-there : (q : ℕ) → at_place (behind mark own m) s p ≡ good q → Held q
  held-there q h = go (at_place (marked mark own) s p) refl where
    go : (x : Answer ℕ) → at_place (marked mark own) s p ≡ x → Held q
    go (bad f) k = let b = behind-bad f k in let z : ◌≡◌ {A = ℕ} 0 1 = cc in absurd (omega arith)
    go (good e) k =
        let c = 2 + own in
        let v = drop p s in
        let x = at_place-end (marked mark own) s p e k in
        let o = marked-end mark own v x.0 x.1.0 in
        let l = length-drop p s in
        let place : e ≡ p + c = x.1.1 ∙ ap (λ z. p + z) o.0 in
        let found : Next m s (p + c) q = ap (at_place m.scan s) (sym place) ∙ inside-good (at_place m.scan s e) q (sym (behind-good e k) ∙ h) in
        let y = at_place-end m.scan s (p + c) q found in
        let all = at_place-end (behind mark own m) s p q h in
        let sum : all.0 ≡ c + y.0 = let a = all.1.1 in let b = y.1.1 in omega arith in
        let room = o.1 in
        record {
          room = omega arith;
          found = found;
          end = all.0;
          ends = all.1.0;
          long = omega arith;
          value =
              ap (λ z. drop c (first_of z v)) (all.1.0 ∙ ap good sum) ∙
              (drop-take c y.0 v ∙ (ap (take y.0) (drop-drop c p s) ∙ sym (ap (λ z. first_of z (drop (p + c) s)) y.1.0)));
        }

-- the same by b, which is m as the code has it
pub held-found : (mark : List ℕ) (own : ℕ) (m b : Meaning) → b ≡ m → (s : List ℕ) (p q : ℕ) → at_place (behind mark own m) s p ≡ good q → Next b s (p + (2 + own)) q
held-found mark own m b is s p q h = subst (λ r. Next r s (p + (2 + own)) q) (sym is) (held-there mark own m s p q h).found

-- where the mark ends
mark-end : (mark : List ℕ) (own : ℕ) (s : List ℕ) (p e : ℕ) → at_place (marked mark own) s p ≡ good e → e ≡ p + (2 + own)
mark-end mark own s p e h = let x = at_place-end (marked mark own) s p e h in x.1.1 ∙ ap (λ z. p + z) (marked-end mark own (drop p s) x.0 x.1.0).0

-- the end of what is held is the holder's
within_held : (r x : Result ℕ Refusal) (p q l : ℕ) → p ≤ q → IfOk r (λ n. x ≡ Ok n) → IfOk x (λ e. (q ≤ e) × (e ≤ l)) → IfOk r (λ e. (p ≤ e) × (e ≤ l))
within_held (Err f) x p q l h same w = tt
within_held (Ok n) x p q l h same w = let y = IfOk-at_ok (λ e. (q ≤ e) × (e ≤ l)) same w in let z = y.0 in (omega arith, y.1)

-- what is held behind a mark is scanned by b, which is m as the code has it: x is what it answers, r what its holder does
pub held-scan :
    (mark : List ℕ) (own : ℕ) (m b : Meaning) → b ≡ m → (s : List ℕ) (p e : ℕ) → good e ≡ at_place (marked mark own) s p → (x r : Result ℕ Refusal) →
    told x ≡ at_place b.scan s e → IfOk x (λ n. (e ≤ n) × (n ≤ length s)) → told r ≡ inside (told x) → IfOk r (λ n. x ≡ Ok n) →
    (told r ≡ at_place (behind mark own m) s p) × IfOk r (λ n. (p ≤ n) × (n ≤ length s))
held-scan mark own m b is s p e h x r scanned inner holds same =
    let place = mark-end mark own s p e (sym h) in (
      holds ∙ (ap inside (scanned ∙ ap (λ z. at_place z.scan s e) is) ∙ sym (behind-good mark own m s p e (sym h))),
      within_held r x p e (length s) (omega arith) same inner,
    )
