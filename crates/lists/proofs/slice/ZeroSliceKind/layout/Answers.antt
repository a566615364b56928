use Rattle.format.proofs.ByteLists.{typed_bytes}
use Rattle.holding.proofs.FarCalls.{far-next, far-tail_asks, far_askable, far_foretold}
use Rattle.lists.proofs.SliceCalls.{slice_holds}
use Rattle.lists.proofs.slice.ZeroSliceKind.layout.Goals as goal

pub far_tail-start-requires : goal.far_tail-start-requires
far_tail-start-requires g c =
    let l = slice_holds (g.met.K.Kind.lawful c.args.self.now.item) g.met.E.Endian.undoes c.args.sheet.now c.args.at.now (typed_bytes c.args.sheet.now c.type_inv.sheet) c.count-count.ensures c.row-row.ensures in
    far-tail_asks l c.align.ensures c.size.ensures c.requires

pub layout-end-requires : goal.layout-end-requires
layout-end-requires g c =
    let l = slice_holds (g.met.K.Kind.lawful c.args.self.now.item) g.met.E.Endian.undoes c.args.sheet.now c.args.at.now (typed_bytes c.args.sheet.now c.type_inv.sheet) c.count-count.ensures c.row-row.ensures in
    far_askable l c.align.ensures c.size.ensures c.requires c.far_tail-start.ensures

pub returns : goal.returns
returns g c =
    let l = slice_holds (g.met.K.Kind.lawful c.args.self.now.item) g.met.E.Endian.undoes c.args.sheet.now c.args.at.now (typed_bytes c.args.sheet.now c.type_inv.sheet) c.count-count.ensures c.row-row.ensures in
    record {
      foretold = far_foretold l c.align.ensures c.size.ensures c.requires c.far_tail-start.ensures c.layout-end.ensures.foretold c.max.ensures;
      next = far-next l c.requires.found c.layout-end.ensures.next;
    }
