use Rattle.rows.proofs.ScanLeft.{ScanLeft}
use Rattle.rows.proofs.Row.scan.Given as goal

abbrev pub invariant-loop : goal.invariant-loop
invariant-loop g l = ScanLeft (g.K.Kind.meaning l.self.item.now) l.self.count l.sheet l.at l.counter l.end-2
