use Rattle.std.proofs.Common.{◌≡◌, ℕ, ◌+◌, Bool, true, false, T, List, length, Option, sym, subst}
use Rattle.std.specs.Bool.{then_some}
use Rattle.format.specs.Orders.{Order, Width}
use Rattle.format.specs.Scalars.{scalar_kind}
use Rattle.kind.specs.Asked.{Always}
use Rattle.scalars.proofs.Facts.{always_length}
use Rattle.scalars.proofs.scalar_kind.ScalarKindKind.always.Goals as goal

-- a length is told where every number is known to pass
known :
    (mark : List ℕ) (w : ℕ) (valid : ℕ → Bool) (o : Order) (k : ℕ) → length mark ≡ 2 → Width w → k ≡ w →
    (all : Bool) → (T all → (n : ℕ) → valid n ≡ true) → (r : Option ℕ) → r ≡ then_some all (2 + k) → Always (scalar_kind mark w valid o) r
known mark w valid o k two width e true h r q = subst (Always (scalar_kind mark w valid o)) (sym q) (always_length mark w valid o k two width e (h tt))
known mark w valid o k two width e false h r q = subst (Always (scalar_kind mark w valid o)) (sym q) tt

pub returns-clause-always : goal.returns-clause-always
returns-clause-always g c =
    known g.S.Scalar.MARK g.S.Width.Primitive.SIZE g.S.Scalar.passes g.E.Endian.order c.SIZE.result g.met.S.Scalar.two g.met.S.Width.Primitive.sized c.SIZE.ensures
    c.ALL_VALID.result (λ t. g.met.S.Scalar.all (subst T c.ALL_VALID.ensures t)) c.then_some.result c.then_some.ensures
