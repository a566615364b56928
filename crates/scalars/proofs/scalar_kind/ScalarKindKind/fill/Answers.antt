use Rattle.format.proofs.PutLaws.{head-alone}
use Rattle.scalars.proofs.scalar_kind.ScalarKindKind.fill.Goals as goal

pub returns-clause-bytes : goal.returns-clause-bytes
returns-clause-bytes g c =
    head-alone (g.E.Endian.order.lay g.S.Width.Primitive.SIZE) (g.S.Width.Primitive.value c.next_number-n.result) _ c.args.out.now c.lay.new.out c.args.head c.args.tail c.next_number-n.ensures.value c.lay.ensures.bytes
