use Rattle.std.proofs.Common.{◌-◌}
use Rattle.rows.proofs.LayLeft.{LayoutLeft}
use Rattle.rows.proofs.Row.layout.Given as goal

abbrev pub invariant-loop : goal.invariant-loop
invariant-loop g l = LayoutLeft (g.K.Kind.meaning l.self.item.now) l.self.count l.sheet l.initial.at l.tail (l.self.count - l.counter) l.at l.end-2 l.widest
