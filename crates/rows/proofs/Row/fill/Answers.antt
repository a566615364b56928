use Rattle.std.proofs.Common.{◌+◌, sym, ap, ◌∙◌}
use native.Mathlib.Nat.{sub-zero}
use Rattle.format.proofs.ByteLists.{typed_bytes}
use Rattle.rows.proofs.ReadLeft.{head-none, head-more, left_suc}
use Rattle.rows.proofs.LayLeft.{fill_left, fill_from, fill_none, fill_item, fill_more}
use Rattle.rows.proofs.Row.fill.Goals as goal

pub loop-index-init : goal.loop-index-init
loop-index-init g c =
    let m = g.K.Kind.meaning c.args.self.now.item.now in
    fill_from (sym (head-none m c.args.head))
    (fill_left (sym (sub-zero c.args.self.now.count)) (fill_none m c.args.self.now.count c.args.sheet.now c.args.at.now c.args.out.now c.args.head c.args.tail c.requires))

pub fill-end-requires : goal.fill-end-requires
fill-end-requires g c =
    fill_item (fill_from (sym c.place-place.ensures) (fill_left (left_suc c.args.self.now.count c.loop-index.index c.loop-index-test.true) c.loop-index.invariant))
    (g.met.K.Kind.lawful c.args.self.now.item.now) (typed_bytes c.args.sheet.now c.type_inv.sheet)

pub loop-index-preserved : goal.loop-index-preserved
loop-index-preserved g c =
    let m = g.K.Kind.meaning c.args.self.now.item.now in
    fill_more (fill_from (sym c.place-place.ensures) (fill_left (left_suc c.args.self.now.count c.loop-index.index c.loop-index-test.true) c.loop-index.invariant))
    (g.met.K.Kind.lawful c.args.self.now.item.now) (typed_bytes c.args.sheet.now c.type_inv.sheet)
    c.fill-end.new.at c.fill-end.new.out c.fill-end.result _ c.fill-end.ensures.next c.fill-end.ensures.bytes c.fill-end.ensures.end
    (head-more m c.args.head c.loop-index.index ∙ ap (λ z. z + m.size) (sym c.place-place.ensures)) c.fill-end.auto.out
