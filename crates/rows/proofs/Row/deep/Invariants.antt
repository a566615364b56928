use Rattle.rows.proofs.ReadLeft.{DeepLeft}
use Rattle.rows.proofs.Row.deep.Given as goal

abbrev pub invariant-loop-index : goal.invariant-loop-index
invariant-loop-index g l = DeepLeft (g.K.Kind.meaning l.self.item.now) l.self.count l.archive l.at l.index l.total
