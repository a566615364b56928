-- What a result of the code says. Assumes nothing.
use Rattle.std.specs.Prelude.{◌≡◌, ℕ, ◌<◌, List, ◌∷◌, map, length, Ok, Err, vec_items, Result}
use Rattle.std.specs.Borrow.{Bor}
use Rattle.std.specs.Global.{Vec}
use Rattle.format.specs.Answers.{Answer, good}
use Rattle.refusal.specs.Told.{refused}
use Rattle.plate_lists.specs.declared.error.ListError.{ListError}
use Rattle.plate_lists.specs.declared.error.ListError.TheVariants.{Memory, Refused, NoCast}
use Rattle.plate_lists.specs.declared.plate.Plate.{Plate}

-- what references point to, one after the other
abbrev pub held : List (Bor (List ℕ)) → List (List ℕ)
held = map (λ x. x.now)

-- what lists of references point to
abbrev pub held_lists : List (Vec (Bor (List ℕ))) → List (List (List ℕ))
held_lists = map (λ v. held (vec_items v))

-- an error says an answer, unless memory ran out
abbrev pub TellsError : {B : Type 0} → ListError → Answer B → Type 0
TellsError Memory a = Unit {0}
TellsError NoCast a = ⊥
TellsError (Refused r) a = refused r ≡ a

-- a result says an answer, its value read by f
abbrev pub Tells : {A B : Type 0} → (A → B) → Result A ListError → Answer B → Type 0
Tells f (Ok v) a = good (f v) ≡ a
Tells f (Err e) a = TellsError e a

-- a result says a plate by the fields of its line, of which there are two at least: number, cast, and the parts
abbrev pub TellsPlate : Result Plate ListError → List (List ℕ) → Type 0
TellsPlate (Ok p) fs = p.number.now ∷ (p.cast.now ∷ held (vec_items p.parts)) ≡ fs
TellsPlate (Err Memory) fs = Unit {0}
TellsPlate (Err NoCast) fs = length fs < 2
TellsPlate (Err (Refused r)) fs = ⊥
