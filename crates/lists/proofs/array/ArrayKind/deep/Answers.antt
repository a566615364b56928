use Rattle.std.proofs.Common.{refl}
use Rattle.format.specs.Sheets.{array_mark}
use Rattle.format.specs.Items.{row}
use Rattle.holding.proofs.Through.{behind-deep}
use Rattle.lists.proofs.array.ArrayKind.deep.Goals as goal

pub returns : goal.returns
returns g c = behind-deep array_mark 2 refl (row (g.K.Kind.meaning c.args.self.now.items.item) c.args.self.now.items.count.value) _ refl c.args.archive.now c.args.at _ _ c.behind_front.ensures c.deep.ensures
