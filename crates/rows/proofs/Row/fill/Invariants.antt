use Rattle.std.proofs.Common.{◌-◌}
use Rattle.rows.proofs.ReadLeft.{head}
use Rattle.rows.proofs.LayLeft.{FillLeft}
use Rattle.rows.proofs.Row.fill.Given as goal

abbrev pub invariant-loop-index : goal.invariant-loop-index
invariant-loop-index g l = FillLeft (g.K.Kind.meaning l.self.item.now) l.self.count l.sheet l.initial.at l.initial.out l.head l.tail (l.self.count - l.index) l.at l.out (head (g.K.Kind.meaning l.self.item.now) l.head l.index) l.end
