-- What the code's items, faults and assembled archives say. Assumes nothing.
use Rattle.std.specs.Prelude.{◌≡◌, ℕ, List, Ok, Err, Result, vec_items}
use Rattle.std.specs.Global.{Vec}
use Rattle.format.specs.Answers as answers
use Rattle.format.specs.Answers.{good, bad}
use Rattle.format.specs.Links.{Span}
use Rattle.format.specs.Archive.{Found, found_items}
use Rattle.format.specs.Builder.{After}
use Rattle.refusal.specs.declared.refusal.Refusal.{Refusal}
use Rattle.refusal.specs.Told.{fault_of, told_by}
use Rattle.builder.specs.declared.ZeroBuilder.{ZeroBuilder}
use Rattle.builder.specs.Model.{after, finished_of}
use Rattle.plate_archive.specs.declared.items.Items.{Items}
use Rattle.plate_archive.specs.declared.fault.Fault.{Fault}
use Rattle.plate_archive.specs.declared.fault.Fault.TheVariants.{Refused, Uneven, NoPlates, Altered, Memory}
use Rattle.plate_archive.specs.declared.roots.PerList.{PerList}
use Rattle.plate_archive.specs.declared.assembly.Assembled.{Assembled}
use Rattle.plate_archive.specs.declared.assembly.AssembleError.{AssembleError}
use Rattle.plate_archive.specs.declared.assembly.AssembleError.TheVariants as assembling
use Rattle.plate_archive.specs.Assembly.{Made, Archive}
use Rattle.plate_archive.specs.Archives.{Three, Wrong, refused, uneven, no_plates, altered, no_memory, Judged, sound, wrong}

abbrev pub span_of : Items → Span
span_of x = record { place = x.place; count = x.count }

-- what is found is items
abbrev pub IsItems : Found → Type 0
IsItems (found_items s) = Unit {0}
IsItems x = ⊥

abbrev pub spans_of : PerList Items → Three Span
spans_of x = record { numbers = span_of x.numbers; casts = span_of x.casts; parts = span_of x.parts }

abbrev pub sheets_of : PerList (Vec ℕ) → Three (List ℕ)
sheets_of x = record { numbers = vec_items x.numbers; casts = vec_items x.casts; parts = vec_items x.parts }

abbrev pub wrong_of : Fault → Wrong
wrong_of (Refused w r) = refused w (fault_of r)
wrong_of (Uneven n c p) = uneven n c p
wrong_of NoPlates = no_plates
wrong_of (Altered w) = altered w
wrong_of Memory = no_memory

-- what a result says, its value read by f
abbrev pub judged : {A B : Type 0} → (A → B) → Result A Fault → Judged B
judged f (Ok v) = sound (f v)
judged f (Err e) = wrong (wrong_of e)

-- what is said is what is so, unless there was no memory, which says nothing
abbrev pub Says : {A : Type 0} → Judged A → Judged A → Type 0
Says (wrong no_memory) y = Unit {0}
Says x y = x ≡ y

-- the answer, the builder and the buffer after calls
abbrev pub left_by : {A B : Type 0} → (A → B) → Result A Refusal → ZeroBuilder → List ℕ → After (answers.Answer B)
left_by f r b buf = after (told_by f r) b buf

abbrev pub places_of : PerList ℕ → Three ℕ
places_of x = record { numbers = x.numbers; casts = x.casts; parts = x.parts }

abbrev pub made_of : Assembled → Made
made_of x = record { places = places_of x.places; finished = finished_of x.finished }

-- the archive that is made, or the refusal, is that of the definition, unless there was no memory, which says nothing
abbrev pub Assembles : Result (Vec ℕ × Assembled) AssembleError → answers.Answer Archive → Type 0
Assembles (Ok x) y = y ≡ good (record { bytes = vec_items x.0; made = made_of x.1 })
Assembles (Err (assembling.Refused r)) y = y ≡ bad (fault_of r)
Assembles (Err assembling.Memory) y = Unit {0}
