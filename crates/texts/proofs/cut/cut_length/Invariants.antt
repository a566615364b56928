use Rattle.std.proofs.Common.{◌≡◌, ◌<◌, length}
use Rattle.format.specs.Texts.{cut}
use Rattle.texts.proofs.cut.cut_length.Given as goal

abbrev pub invariant-loop-end : goal.invariant-loop-end
invariant-loop-end l = (l.end < length l.bytes) × (cut l.end l.bytes ≡ cut l.capacity l.bytes)
