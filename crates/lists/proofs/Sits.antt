-- Where the items of a slice are. Assumes nothing.
use Rattle.std.proofs.Common.{◌≡◌, ℕ, ◌+◌, eqb, ◌⊎◌, List, sym, ap, ◌∙◌, subst, inl, inr}
use Rattle.std.proofs.lemmas.Bool.{eq-eqb, ne_eqb, cases_eq}
use Rattle.format.specs.Places.{part}
use Rattle.format.specs.Orders.{Order}
use Rattle.format.specs.Answers.{good}
use Rattle.format.specs.Meaning.{Meaning, Sits}
use Rattle.format.specs.Items.{row}
use Rattle.format.specs.Links.{linked, Span, slice_at}
use Rattle.format.proofs.AnswerLaws.{unless-true, unless-false, both_parts, good-same}
use Rattle.format.proofs.FarLaws.{linked_parts}

-- the items that a slice is found to have sit side by side
pub slice_sits : (m : Meaning) (o : Order) (a : List ℕ) (p : ℕ) (s : Span) → slice_at m o a p ≡ good s → (s.count ≡ 0 → ⊥) → Sits (row m s.count) a s.place
slice_sits m o a p s at ne = go (cases_eq c 0) where
  c : ℕ
  c = o.take_back (part p 4 a)

  go : (c ≡ 0) ⊎ (c ≡ 0 → ⊥) → Sits (row m s.count) a s.place
  go (inl z) =
      let none : good s ≡ good (record { place = p + 4; count = 0 }) = sym at ∙ unless-true (eqb c 0) _ _ (eq-eqb c 0 z) in
      absurd (ne (ap (λ (x : Span). x.count) (good-same _ _ none)))
  go (inr some) =
      let x = both_parts (linked (row m c) o a (p + 4)) _ s (sym (unless-false (eqb c 0) _ _ (ne_eqb c 0 some)) ∙ at) in
      subst (λ (y : Span). Sits (row m y.count) a y.place) (good-same _ _ x.1.1) (linked_parts (row m c) o a (p + 4) x.0 x.1.0).1
