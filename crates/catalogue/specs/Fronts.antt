-- The letters that a front of a name says. Assumes nothing.
use Rattle.std.specs.Prelude.{ℕ, List, codes}
use Rattle.catalogue.specs.declared.names.Front.{Front}
use Rattle.catalogue.specs.declared.names.Front.TheVariants.{Pointer, Array, Far, Slice}

abbrev pub letters : Front → List ℕ
letters Pointer = codes "p"
letters Array = codes "r2."
letters Far = codes "a3."
letters Slice = codes "s"
