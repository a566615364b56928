use Rattle.rows.proofs.ReadLeft.{ShallowLeft}
use Rattle.rows.proofs.Row.shallow.Given as goal

abbrev pub invariant-loop-index : goal.invariant-loop-index
invariant-loop-index g l = ShallowLeft (g.K.Kind.meaning l.self.item.now) l.self.count l.archive l.at l.index
