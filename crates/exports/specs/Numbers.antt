-- The five numbers that C reads of a call. Assumes nothing.
use Rattle.std.specs.Prelude.{ℕ, Result, Ok, Err}
use Rattle.format.specs.Answers as answers
use Rattle.format.specs.Answers.{Fault, good, bad}
use Rattle.refusal.specs.Told.{fault_of}
use Rattle.catalogue.specs.declared.missing.Missing.{Missing}
use Rattle.catalogue.specs.declared.missing.Missing.TheVariants as missing
use Rattle.exports.specs.declared.answer.Answer.{Answer}
use Rattle.exports.specs.declared.answer.Told.{Told}
use Rattle.exports.specs.declared.answer.NotMade.{NotMade}
use Rattle.exports.specs.declared.answer.NotMade.TheVariants as why
use Rattle.exports.specs.declared.answer.Trouble.{Trouble}
use Rattle.exports.specs.declared.answer.Trouble.TheVariants as troubles

-- an accepted call tells one number or two, a refused one three, and one that is not made has a number of its own
abbrev pub telling : ℕ → ℕ → Answer
telling value count = record { refusal = 0; place = 0; depth = 0; value = value; count = count }

abbrev pub refused : Fault → Answer
refused f = record { refusal = f.number; place = f.place; depth = f.depth; value = 0; count = 0 }

abbrev pub unmade : ℕ → Answer
unmade n = record { refusal = n; place = 0; depth = 0; value = 0; count = 0 }

-- what a call's definition answers
abbrev pub in_numbers : answers.Answer Told → Answer
in_numbers (good t) = telling t.value t.count
in_numbers (bad f) = refused f

abbrev pub why_not : NotMade → ℕ
why_not why.NoKind = 100
why_not why.NoOrder = 101
why_not why.NoGet = 102
why_not why.NoCall = 103
why_not why.NoAnswer = 104

-- what the code's outcome of a call says
abbrev pub answer_of : Result Told Trouble → Answer
answer_of (Ok t) = telling t.value t.count
answer_of (Err (troubles.Refused r)) = refused (fault_of r)
answer_of (Err (troubles.NotMade w)) = unmade (why_not w)

abbrev pub trouble_of : Missing → Trouble
trouble_of missing.NoKind = troubles.NotMade why.NoKind
trouble_of (missing.Refused r) = troubles.Refused r
