use Rattle.std.proofs.Common.{refl}
use Rattle.format.specs.Sheets.{array_mark}
use Rattle.format.specs.Items.{row}
use Rattle.holding.proofs.Fronts.{held-scan}
use Rattle.lists.proofs.array.ArrayKind.scan.Goals as goal

pub returns : goal.returns
returns g c =
    let x = held-scan array_mark 0 (row (g.K.Kind.meaning c.args.self.now.items.item) c.args.self.now.items.count.value) _ refl c.args.sheet.now c.args.at c.in_ok-first.first c.in_ok-first.ensures.told c.scan.result c.held.result c.scan.ensures.told c.scan.ensures.within c.held.ensures.told c.held.ensures.same in
    record { told = x.0; within = x.1 }
