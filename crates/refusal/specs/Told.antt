-- What a refusal of the code says: its number, place and depth. Assumes nothing.
use Rattle.std.specs.Prelude.{ℕ, Ok, Err, Result}
use Rattle.format.specs.Answers.{Fault, Answer, good, bad}
use Rattle.refusal.specs.declared.cause.Cause.{Cause}
use Rattle.refusal.specs.declared.cause.Cause.TheVariants.{OverLimit, OtherBuffer, BadAlignment, NoRoom, PastUsed, WrongSize, BadCount, WrongMark, SheetEnds, SheetNotText, SheetNotScalar, BytesBehind, Outside, Misaligned, NotText, NotScalar}
use Rattle.refusal.specs.declared.refusal.Refusal.{Refusal}

abbrev pub cause_number : Cause → ℕ
cause_number OverLimit = 1
cause_number OtherBuffer = 2
cause_number BadAlignment = 3
cause_number NoRoom = 4
cause_number PastUsed = 5
cause_number WrongSize = 6
cause_number BadCount = 7
cause_number WrongMark = 11
cause_number SheetEnds = 12
cause_number SheetNotText = 13
cause_number SheetNotScalar = 14
cause_number BytesBehind = 15
cause_number Outside = 21
cause_number Misaligned = 22
cause_number NotText = 23
cause_number NotScalar = 24

abbrev pub fault_of : Refusal → Fault
fault_of r = record { number = cause_number r.cause; place = r.place; depth = r.depth }

-- a refusal as what a call answers
abbrev pub refused : {A : Type 0} → Refusal → Answer A
refused r = bad (fault_of r)

-- what a call's result says, its value read by f
abbrev pub told_by : {A B : Type 0} → (A → B) → Result A Refusal → Answer B
told_by f (Ok a) = good (f a)
told_by f (Err r) = refused r

abbrev pub told : {A : Type 0} → Result A Refusal → Answer A
told = told_by (λ a. a)
