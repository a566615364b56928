use Rattle.std.proofs.Common.{sym}
use native.Mathlib.Nat.{sub-zero}
use Rattle.format.proofs.ByteLists.{typed_bytes}
use Rattle.rows.proofs.ReadLeft.{left_suc, left_zero}
use Rattle.rows.proofs.LayLeft.{layout_left, layout_none, layout_item, layout_more, layout_all}
use Rattle.rows.proofs.Row.layout.Goals as goal

pub loop-init : goal.loop-init
loop-init g c =
    layout_left (sym (sub-zero c.args.self.now.count))
    (layout_none (g.K.Kind.meaning c.args.self.now.item.now) c.args.self.now.count c.args.sheet.now c.args.at.now c.args.tail c.align-widest.result c.requires c.align-widest.ensures)

pub layout-item_end-requires : goal.layout-item_end-requires
layout-item_end-requires g c = layout_item (layout_left (left_suc c.args.self.now.count c.loop.counter c.loop-test.true) c.loop.invariant)

pub loop-preserved : goal.loop-preserved
loop-preserved g c =
    layout_more (layout_left (left_suc c.args.self.now.count c.loop.counter c.loop-test.true) c.loop.invariant) (g.met.K.Kind.lawful c.args.self.now.item.now).keeps (typed_bytes c.args.sheet.now c.type_inv.sheet)
    c.layout-item_end.new.at c.layout-item_end.result.0 c.layout-item_end.result.1 c.max-widest.result c.layout-item_end.ensures.foretold c.layout-item_end.ensures.next c.max-widest.ensures

pub returns : goal.returns
returns g c =
    let r = layout_all (layout_left (left_zero c.args.self.now.count c.loop.counter c.loop-test.false) c.loop.invariant) in
    record { foretold = r.0; next = r.1 }
