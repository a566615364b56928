use Rattle.std.proofs.Common.{refl, arith}
use Rattle.format.proofs.ByteLists.{typed_bytes}
use Rattle.holding.proofs.FarCalls.{far-next, far_reachable, far_fillable, far-filled}
use Rattle.links.proofs.LinkCalls.{link_holds}
use Rattle.links.proofs.link.LinkKind.fill.Goals as goal

pub reach-place-requires : goal.reach-place-requires
reach-place-requires g c =
    let l = link_holds g.M.Mark.MARK g.M.Mark.bytes g.M.Mark.two (g.met.K.Kind.lawful c.args.self.now.item) g.met.E.Endian.undoes c.args.sheet.now c.args.at.now (typed_bytes c.args.sheet.now c.type_inv.sheet) in
    (c.requires.behind, far_reachable l c.requires c.align.ensures c.args.out.now refl)

pub fill-requires : goal.fill-requires
fill-requires g c =
    let l = link_holds g.M.Mark.MARK g.M.Mark.bytes g.M.Mark.two (g.met.K.Kind.lawful c.args.self.now.item) g.met.E.Endian.undoes c.args.sheet.now c.args.at.now (typed_bytes c.args.sheet.now c.type_inv.sheet) in
    far_fillable l c.requires c.align.ensures c.reach-place.ensures.place (omega arith) c.reach-place.auto.out

pub returns : goal.returns
returns g c =
    let l = link_holds g.M.Mark.MARK g.M.Mark.bytes g.M.Mark.two (g.met.K.Kind.lawful c.args.self.now.item) g.met.E.Endian.undoes c.args.sheet.now c.args.at.now (typed_bytes c.args.sheet.now c.type_inv.sheet) in
    let r = far-filled l c.requires c.align.ensures c.reach-place.ensures.place (omega arith) c.reach-place.ensures.bytes c.fill.ensures.bytes c.fill.ensures.end in
    record { bytes = r.0; end = r.1; next = far-next l c.requires.found c.fill.ensures.next }
