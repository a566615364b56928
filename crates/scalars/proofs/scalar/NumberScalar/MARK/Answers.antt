use Rattle.std.proofs.Common.{◌≡◌, ℕ, sym, ap, ◌∙◌, ⊎_elim, arith}
use Rattle.format.specs.Orders.{Width}
use Rattle.format.specs.Sheets.{number_mark}
use Rattle.format.proofs.OrderLaws.{width_cases}
use Rattle.scalars.proofs.scalar.NumberScalar.MARK.Goals as goal

-- a width that is none of the other three is 8
eight : (w v : ℕ) → Width w → v ≡ w → (v ≡ 1 → ⊥) → (v ≡ 2 → ⊥) → (v ≡ 4 → ⊥) → number_mark 8 ≡ number_mark w
eight w v k e a b d =
    ⊎_elim (λ x. absurd (a (e ∙ x))) (⊎_elim (λ x. absurd (b (e ∙ x))) (⊎_elim (λ x. absurd (d (e ∙ x))) (λ x. ap number_mark (sym x)))) (width_cases w k)

pub returns-in_default : goal.returns-in_default
returns-in_default g c = eight g.P.Primitive.SIZE c.SIZE.result g.met.P.Primitive.sized c.SIZE.ensures (λ e. omega arith) (λ e. omega arith) (λ e. omega arith)
