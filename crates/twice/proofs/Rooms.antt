-- How far a value that is found reaches. Assumes nothing.
use Rattle.std.proofs.Common.{ℕ, ◌+◌, ◌≤◌, List, length, arith}
use Rattle.format.specs.Sheets.{any}
use Rattle.format.proofs.FoundLaws.{found}
use Rattle.kind.specs.Asked.{Next}
use Rattle.twice.specs.Twice.{twice, twice_mark}

-- a value that stands at p has its three bytes there
pub room : (s : List ℕ) (p q : ℕ) → Next twice s p q → p + 3 ≤ length s
room s p q h = let f = found twice_mark 1 any s p q h in omega arith
