-- The alignments that a builder of the code goes by. Assumes nothing.
use Rattle.std.specs.Prelude.{◌≡◌, ℕ, ◌≤◌, true}
use Rattle.format.specs.Builder.{allowed}

-- an alignment that is not 0
pub record Power (a : ℕ) : Type 0 where
  pub listed : allowed a ≡ true
  pub some : 1 ≤ a
