use Rattle.std.proofs.Common.{arith}
use Rattle.lists.proofs.SliceCalls.{slice-copyable, slice-copied, none-copied}
use Rattle.lists.proofs.slice.ZeroSliceKind.copy.Goals as goal

pub returns-then-count-eq0 : goal.returns-then-count-eq0
returns-then-count-eq0 g c s h =
    none-copied (g.K.Kind.meaning c.args.self.now.item) g.E.Endian.order c.args.archive.now c.args.at c.span.result c.unwrap-place.result c.unwrap-place.ensures c.span.ensures s h c.if-count-eq0.true
    c.args.out.now c.put_at.new.out c.lay.new.out c.args.to (omega (arith, c.requires.room)) c.put_at.ensures c.lay.ensures.bytes

pub copy-requires : goal.copy-requires
copy-requires g c =
    slice-copyable (g.K.Kind.meaning c.args.self.now.item) g.E.Endian.order c.args.archive.now c.args.at c.span.result c.unwrap-place.result c.unwrap-place.ensures c.span.ensures c.requires.sheet c.requires.read _ c.row.ensures c.if-count-eq0.false
    c.lay.new.out c.args.to c.requires.seated.capped (omega (arith, c.requires.room, c.lay.auto.out, c.put_at.auto.out))

pub returns : goal.returns
returns g c s h =
    slice-copied (g.K.Kind.meaning c.args.self.now.item) g.E.Endian.order c.args.archive.now c.args.at c.span.result c.unwrap-place.result c.unwrap-place.ensures c.span.ensures s h _ c.row.ensures
    c.args.out.now c.put_at.new.out c.lay.new.out c.copy.new.out c.args.to c.copy.result (omega (arith, c.requires.room)) c.put_at.ensures c.lay.ensures.bytes c.copy.ensures
