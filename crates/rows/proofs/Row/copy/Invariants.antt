use Rattle.rows.proofs.CopyLeft.{CopyLeft}
use Rattle.rows.proofs.Row.copy.Given as goal

abbrev pub invariant-loop-index : goal.invariant-loop-index
invariant-loop-index g l = CopyLeft (g.K.Kind.meaning l.self.item.now) l.self.count l.archive l.at l.initial.out l.to l.index l.out l.end
