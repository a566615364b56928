use Rattle.std.proofs.Common.{◌+◌, sym, ◌∙◌}
use Rattle.format.specs.Sheets.{slice_mark}
use Rattle.format.specs.Items.{row}
use Rattle.holding.proofs.Fronts.{held-scan}
use Rattle.lists.proofs.SliceCalls.{slice-scan}
use Rattle.lists.proofs.slice.ZeroSliceKind.scan.Goals as goal

pub returns : goal.returns
returns g c =
    let m = g.K.Kind.meaning c.args.self.now.item in
    let y = slice-scan m g.E.Endian.order c.args.sheet.now c.args.at c.in_ok-count.count (sym c.in_ok-count.ensures.told) in
    let x = held-scan slice_mark 4 (row m c.in_ok-count.count) _ c.row.ensures c.args.sheet.now c.args.at (c.args.at + 6) (sym y.0) c.scan.result c.held.result c.scan.ensures.told c.scan.ensures.within c.held.ensures.told c.held.ensures.same in
    record { told = x.0 ∙ sym y.1; within = x.1 }
