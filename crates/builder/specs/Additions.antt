-- What is put behind an archive, as bytes. Assumes nothing.
use Rattle.std.specs.Prelude.{ℕ, List}
use Rattle.format.specs.Places.{zeros}
use Rattle.builder.specs.declared.addition.Addition.{Addition}
use Rattle.builder.specs.declared.addition.Addition.TheVariants.{Zeros, Bytes}

abbrev pub bytes_of : Addition → List ℕ
bytes_of (Zeros n) = zeros n
bytes_of (Bytes xs) = xs.now
