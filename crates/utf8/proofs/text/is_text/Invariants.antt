-- From where the recogniser stands, what is left comes to where the whole text comes.
use Rattle.std.proofs.Common.{◌≡◌, drop}
use Rattle.format.specs.Recogniser.{run, start}
use Rattle.utf8.specs.Stands.{stands}
use Rattle.utf8.proofs.text.is_text.Given as goal

abbrev pub invariant-loop-byte : goal.invariant-loop-byte
invariant-loop-byte l = run (stands l.recogniser.position) (drop l.byte-index l.bytes) ≡ run start l.bytes
