-- Where the recogniser of the code stands. Assumes nothing.
use Rattle.format.specs.Recogniser.{State, start, one, two, three, after_E0, after_ED, after_F0, after_F4}
use Rattle.utf8.specs.declared.recogniser.Position.{Position}
use Rattle.utf8.specs.declared.recogniser.Position.TheVariants.{Start, One, Two, Three, AfterE0, AfterEd, AfterF0, AfterF4}

abbrev pub stands : Position → State
stands Start = start
stands One = one
stands Two = two
stands Three = three
stands AfterE0 = after_E0
stands AfterEd = after_ED
stands AfterF0 = after_F0
stands AfterF4 = after_F4
