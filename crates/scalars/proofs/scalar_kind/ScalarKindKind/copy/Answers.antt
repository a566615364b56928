use Rattle.std.proofs.Common.{◌+◌, ◌≤◌, length, sym, ap, ◌∙◌, arith}
use Rattle.format.specs.Sheets.{number_sheet}
use Rattle.format.proofs.FoundLaws.{copied, sheet-length}
use Rattle.scalars.proofs.Facts.{read}
use Rattle.scalars.proofs.scalar_kind.ScalarKindKind.copy.Goals as goal

pub lay-requires : goal.lay-requires
lay-requires g c =
    let is = read g.S.Scalar.MARK g.S.Width.Primitive.SIZE g.S.Scalar.passes g.E.Endian.order c.args.archive.now c.args.at c.requires.sheet c.requires.read in
    let l = ap length is ∙ sheet-length g.S.Scalar.MARK g.S.Width.Primitive.SIZE _ g.met.S.Scalar.two in
    omega (arith, l, c.put_at.auto.out, c.requires.room)

pub returns : goal.returns
returns g c s h =
    let room : c.args.to ≤ length c.args.out.now = omega (arith, c.requires.room) in
    let is = read g.S.Scalar.MARK g.S.Width.Primitive.SIZE g.S.Scalar.passes g.E.Endian.order c.args.archive.now c.args.at s h in
    let r = copied g.S.Scalar.MARK c.MARK.result c.args.out.now c.put_at.new.out c.lay.new.out c.args.to g.S.Width.Primitive.SIZE (g.S.Width.Primitive.value c.take_back-n.result) s c.MARK.ensures g.met.S.Scalar.two c.put_at.ensures c.lay.ensures.bytes (is ∙ ap (number_sheet g.S.Scalar.MARK g.S.Width.Primitive.SIZE) (sym c.take_back-n.ensures.value)) room in
    (r.0, ap (λ z. c.args.to + 2 + z) c.SIZE.ensures ∙ r.1)
