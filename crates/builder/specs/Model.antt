-- What a builder of the code is in the words of the format, and what a call answers and leaves. Assumes nothing.
use Rattle.std.specs.Prelude.{◌≡◌, ℕ, ◌+◌, ◌-◌, ◌≤◌, List, ◌++◌, length, Result}
use Rattle.refusal.specs.declared.refusal.Refusal.{Refusal}
use Rattle.refusal.specs.Told.{told}
use Rattle.format.specs.Places.{stop, zeros}
use Rattle.format.specs.Answers.{Answer}
use Rattle.format.specs.Meaning.{Meaning}
use Rattle.format.specs.Builder.{Builder, Change, After, Finished}
use Rattle.builder.specs.declared.ZeroBuilder.{ZeroBuilder}
use Rattle.builder.specs.declared.Finished.{Finished as End}
use Rattle.builder.specs.declared.planning.Plan.{Plan}

abbrev pub model : ZeroBuilder → Builder
model b = record { used = b.used; align = b.align.bytes; room = b.room }

abbrev pub finished_of : End → Finished
finished_of f = record { length = f.length; alignment = f.alignment }

-- an answer, the builder and the buffer after calls
abbrev pub after : {A : Type 0} → A → ZeroBuilder → List ℕ → After A
after a b buf = record { answer = a; builder = model b; buffer = buf }

-- of one call
abbrev pub left : Result ℕ Refusal → ZeroBuilder → List ℕ → After (Answer ℕ)
left r b buf = after (told r) b buf

-- zeros may be put up to p, and the archive may then have n bytes
pub record Growable (b : Builder) (buf : List ℕ) (p n : ℕ) : Type 0 where
  pub own : length buf ≡ b.room
  pub low : b.used ≤ p
  pub high : p ≤ n
  pub room : n ≤ b.room

-- what a build would change that goes by a plan
abbrev pub planned : Builder → Meaning → List ℕ → Plan → Change
planned b m v x =
    let l = m.lay v x.place (stop (x.place + m.size)) in
    record { answer = x.place; from = b.used; bytes = zeros (x.place - b.used) ++ (l.head ++ l.tail); used = x.end; align = x.align.bytes }
