-- What a scalar that is read in an archive says. Assumes nothing.
use Rattle.std.proofs.Common.{◌≡◌, ℕ, ◌+◌, min, Bool, true, false, List, length, sym, refl, ap, ◌∙◌, arith}
use Rattle.format.specs.Places.{part}
use Rattle.format.specs.Orders.{Order, Width}
use Rattle.format.specs.Answers.{Answer, good, bad, fault, both}
use Rattle.format.specs.Sheets.{number_sheet}
use Rattle.format.specs.Scalars.{number_at}
use Rattle.format.proofs.AnswerLaws.{unless-true, unless-false, both-good, both-bad}
use Rattle.format.proofs.FoundLaws.{sheet-length}
use Rattle.format.proofs.OrderLaws.{width_bounds}

-- a scalar that is read is the number there, behind its mark, and passes the test
pub read : (mark : List ℕ) (w : ℕ) (valid : ℕ → Bool) (o : Order) (a : List ℕ) (p : ℕ) (s : List ℕ) → both (number_at w valid o a p) (λ n. good (number_sheet mark w n)) ≡ good s → s ≡ number_sheet mark w (o.take_back (part p w a))
read mark w valid o a p s h = go (valid n) refl where
  n : ℕ
  n = o.take_back (part p w a)

  go : (b : Bool) → valid n ≡ b → s ≡ number_sheet mark w (o.take_back (part p w a))
  go true t = let m = sym h ∙ both-good (number_at w valid o a p) n (λ n. good (number_sheet mark w n)) (unless-true (valid n) _ _ t) in cc
  go false t = let m = sym h ∙ both-bad (number_at w valid o a p) _ (λ n. good (number_sheet mark w n)) (unless-false (valid n) (fault 24 p) _ t) in let z : ◌≡◌ {A = ℕ} 0 1 = cc in absurd (omega arith)

-- how long the sheet is of a scalar that one look accepts
pub deep-length :
    (mark : List ℕ) (w : ℕ) (valid : ℕ → Bool) (o : Order) (a : List ℕ) (p q r k : ℕ) → length mark ≡ 2 → Width w → k ≡ w → good q ≡ both (number_at w valid o a p) (λ _. good r) →
    good (2 + k) ≡ both (both (number_at w valid o a p) (λ n. good (number_sheet mark w n))) (λ s. good (min (length s) 18446744073709551615))
deep-length mark w valid o a p q r k two width e h = go (number_at w valid o a p) h where
  go : (x : Answer ℕ) → good q ≡ both x (λ _. good r) → good (2 + k) ≡ both (both x (λ n. good (number_sheet mark w n))) (λ s. good (min (length s) 18446744073709551615))
  go (good n) m =
      let l = sheet-length mark w n two in
      let b = width_bounds w width in
      let same : 2 + k ≡ min (length (number_sheet mark w n)) 18446744073709551615 = omega (arith, b.1) in
      ap good same
  go (bad f) m = let z : ◌≡◌ {A = ℕ} 0 1 = cc in absurd (omega arith)

-- a scalar that every number is can always be read
pub always_length :
    (mark : List ℕ) (w : ℕ) (valid : ℕ → Bool) (o : Order) (k : ℕ) → length mark ≡ 2 → Width w → k ≡ w → ((n : ℕ) → valid n ≡ true) → (a : List ℕ) (p : ℕ) →
    both (both (number_at w valid o a p) (λ n. good (number_sheet mark w n))) (λ s. good (min (length s) 18446744073709551615)) ≡ good (2 + k)
always_length mark w valid o k two width e h a p =
    let n = o.take_back (part p w a) in
    sym (deep-length mark w valid o a p p p k two width e (sym (both-good (number_at w valid o a p) n (λ _. good p) (unless-true (valid n) _ _ (h n)))))
