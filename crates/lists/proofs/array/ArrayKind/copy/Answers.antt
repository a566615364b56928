use Rattle.std.proofs.Common.{◌+◌, refl, arith}
use Rattle.format.specs.Sheets.{array_mark}
use Rattle.format.specs.Items.{row}
use Rattle.holding.proofs.Through.{held_copyable, held-copied}
use Rattle.lists.proofs.array.ArrayKind.copy.Goals as goal

pub copy-requires : goal.copy-requires
copy-requires g c =
    held_copyable array_mark (row (g.K.Kind.meaning c.args.self.now.items.item) c.args.self.now.items.count.value) _ refl c.args.archive.now c.args.at c.requires.sheet c.requires.read
    c.put_at.new.out c.args.to (c.args.to + 2) c.requires.seated.capped (c.requires.seated.within, c.requires.seated.aligned) (omega (arith, c.requires.room, c.put_at.auto.out)) refl

pub returns : goal.returns
returns g c s h =
    held-copied array_mark (row (g.K.Kind.meaning c.args.self.now.items.item) c.args.self.now.items.count.value) _ refl c.args.archive.now c.args.at s h
    c.args.out.now c.put_at.new.out c.copy.new.out c.args.to (c.args.to + 2) c.copy.result (omega (arith, c.requires.room)) c.put_at.ensures refl c.copy.ensures
