use Rattle.std.proofs.Common.{◌∙◌, arith}
use Rattle.format.proofs.ByteLists.{typed_bytes}
use Rattle.holding.proofs.FarCalls.{far-next, far_reachable, far_fillable, far-filled}
use Rattle.lists.proofs.SliceCalls.{slice_holds, count_put}
use Rattle.lists.proofs.slice.ZeroSliceKind.fill.Goals as goal

pub reach-place-requires : goal.reach-place-requires
reach-place-requires g c =
    let l = slice_holds (g.met.K.Kind.lawful c.args.self.now.item) g.met.E.Endian.undoes c.args.sheet.now c.args.at.now (typed_bytes c.args.sheet.now c.type_inv.sheet) c.count-count.ensures c.row-row.ensures in
    (omega (arith, c.requires.behind), far_reachable l c.requires c.align.ensures c.lay.new.out c.lay.auto.out)

pub fill-requires : goal.fill-requires
fill-requires g c =
    let l = slice_holds (g.met.K.Kind.lawful c.args.self.now.item) g.met.E.Endian.undoes c.args.sheet.now c.args.at.now (typed_bytes c.args.sheet.now c.type_inv.sheet) c.count-count.ensures c.row-row.ensures in
    far_fillable l c.requires c.align.ensures c.reach-place.ensures.place (omega arith) (c.reach-place.auto.out ∙ c.lay.auto.out)

pub returns : goal.returns
returns g c =
    let l = slice_holds (g.met.K.Kind.lawful c.args.self.now.item) g.met.E.Endian.undoes c.args.sheet.now c.args.at.now (typed_bytes c.args.sheet.now c.type_inv.sheet) c.count-count.ensures c.row-row.ensures in
    let r = far-filled l c.requires c.align.ensures c.reach-place.ensures.place (omega arith)
    (count_put c.requires g.met.E.Endian.undoes _ c.count-count.type_inv c.lay.ensures.bytes _ c.reach-place.ensures.bytes) c.fill.ensures.bytes c.fill.ensures.end in
    record { bytes = r.0; end = r.1; next = far-next l c.requires.found c.fill.ensures.next }
