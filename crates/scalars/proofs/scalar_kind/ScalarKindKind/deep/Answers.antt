use Rattle.scalars.proofs.Facts.{deep-length}
use Rattle.scalars.proofs.scalar_kind.ScalarKindKind.deep.Goals as goal

pub returns : goal.returns
returns g c =
    deep-length g.S.Scalar.MARK g.S.Width.Primitive.SIZE g.S.Scalar.passes g.E.Endian.order c.args.archive.now c.args.at c.in_ok-shallow.field-0 c.args.at c.SIZE.result g.met.S.Scalar.two g.met.S.Width.Primitive.sized c.SIZE.ensures c.in_ok-shallow.ensures
