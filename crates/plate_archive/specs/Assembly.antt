-- How an archive of plates is assembled of three sheets, by the calls of a builder. Assumes nothing.
use Rattle.std.specs.Prelude.{ℕ, ◌+◌, ◌-◌, ◌*◌, min, List, length, take}
use Rattle.format.specs.Places.{limit, zeros}
use Rattle.format.specs.Orders.{little}
use Rattle.format.specs.Answers.{Answer, Fault, good, bad, both}
use Rattle.format.specs.Builder as builders
use Rattle.format.specs.Builder.{Builder, After, Finished, new, reserve, write, step, finish}
use Rattle.plate_archive.specs.declared.roots.Which.{Which}
use Rattle.plate_archive.specs.declared.roots.Which.TheVariants.{Numbers, Casts, Parts}
use Rattle.plate_archive.specs.Archives.{list, root, root_place, Three}

-- calls one behind another, on a builder and its buffer; `step` is one
abbrev pub Run : Type 0 → Type 0
Run A = Builder → List ℕ → After (Answer A)

-- no call: an answer, or a refusal
abbrev pub tell : {A : Type 0} → A → Run A
tell a b buf = record { answer = good a; builder = b; buffer = buf }

abbrev pub refuse : {A : Type 0} → Fault → Run A
refuse e b buf = record { answer = bad e; builder = b; buffer = buf }

-- what goes on by an answer; the first refusal ends all
abbrev pub by : {A B : Type 0} → (A → Run B) → Answer A → Run B
by next (good a) = next a
by next (bad e) = refuse e

abbrev pub then : {A B : Type 0} → Run A → (A → Run B) → Run B
then first next b buf = let x = first b buf in by next x.answer x.builder x.buffer

-- the three pointers come first, so that they stand at 0, 4 and 8; the place of the last is told
abbrev pub reserve_pointers : Run ℕ
reserve_pointers = then (step (reserve (root Numbers))) (λ _. then (step (reserve (root Casts))) (λ _. step (reserve (root Parts))))

-- the distance of a place from the pointer of a list is written there; the place is told
abbrev pub lead : Which → ℕ → Run ℕ
lead w p = then (step (write (root_place w) (little.lay 4 (p - root_place w)))) (λ _. tell p)

-- the list of a sheet behind what stands, to which its pointer leads
abbrev pub build : Which → List ℕ → Run ℕ
build w sheet = then (step (builders.build (list w) sheet)) (lead w)

-- the three lists in order, and where they are
abbrev pub build_lists : Three (List ℕ) → Run (Three ℕ)
build_lists s =
    then (build Numbers s.numbers) (λ n.
    then (build Casts s.casts) (λ c.
    then (build Parts s.parts) (λ p.
    tell (record { numbers = n; casts = c; parts = p }))))

-- where the lists are, and what the builder tells at its end
pub record Made : Type 0 where
  pub places : Three ℕ
  pub finished : Finished

-- an answer, and the buffer after it
pub record Outcome : Type 0 where
  pub answer : Answer Made
  pub buffer : List ℕ

abbrev pub ended : After (Answer (Three ℕ)) → Outcome
ended x = record { answer = both x.answer (λ p. good (record { places = p; finished = finish x.builder })); buffer = x.buffer }

-- on a buffer that is handed over
abbrev pub begun : Three (List ℕ) → List ℕ → Answer Builder → Outcome
begun s buf (bad e) = record { answer = bad e; buffer = buf }
begun s buf (good b) = ended (then reserve_pointers (λ _. build_lists s) b buf)

abbrev pub assemble_in : Three (List ℕ) → List ℕ → Outcome
assemble_in s buf = begun s buf (new buf)

-- how long the buffer is
abbrev pub room_for : Three (List ℕ) → ℕ
room_for s = min (64 + 2 * (length s.numbers + length s.casts + length s.parts)) limit

-- the bytes of the archive, and what is told of it
pub record Archive : Type 0 where
  pub bytes : List ℕ
  pub made : Made

-- the front of the buffer, as long as the builder tells
abbrev pub cut : Outcome → Answer Archive
cut x = both x.answer (λ m. good (record { bytes = take m.finished.length x.buffer; made = m }))

abbrev pub assemble : Three (List ℕ) → Answer Archive
assemble s = cut (assemble_in s (zeros (room_for s)))
