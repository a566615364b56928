use Rattle.std.proofs.Common.{arith}
use Rattle.format.proofs.ByteLists.{typed_bytes}
use Rattle.holding.proofs.FarCalls.{far-next, far-tail_asks, far_askable, far_foretold}
use Rattle.links.proofs.LinkCalls.{link_holds}
use Rattle.links.proofs.link.LinkKind.layout.Goals as goal

pub far_tail-start-requires : goal.far_tail-start-requires
far_tail-start-requires g c =
    let l = link_holds g.M.Mark.MARK g.M.Mark.bytes g.M.Mark.two (g.met.K.Kind.lawful c.args.self.now.item) g.met.E.Endian.undoes c.args.sheet.now c.args.at.now (typed_bytes c.args.sheet.now c.type_inv.sheet) in
    far-tail_asks l c.align.ensures c.size.ensures c.requires

pub layout-end-requires : goal.layout-end-requires
layout-end-requires g c =
    let l = link_holds g.M.Mark.MARK g.M.Mark.bytes g.M.Mark.two (g.met.K.Kind.lawful c.args.self.now.item) g.met.E.Endian.undoes c.args.sheet.now c.args.at.now (typed_bytes c.args.sheet.now c.type_inv.sheet) in
    far_askable l c.align.ensures c.size.ensures c.requires c.far_tail-start.ensures

pub returns : goal.returns
returns g c =
    let l = link_holds g.M.Mark.MARK g.M.Mark.bytes g.M.Mark.two (g.met.K.Kind.lawful c.args.self.now.item) g.met.E.Endian.undoes c.args.sheet.now c.args.at.now (typed_bytes c.args.sheet.now c.type_inv.sheet) in
    record {
      foretold = far_foretold l c.align.ensures c.size.ensures c.requires c.far_tail-start.ensures c.layout-end.ensures.foretold (omega arith);
      next = far-next l c.requires.found c.layout-end.ensures.next;
    }
