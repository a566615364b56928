-- The life of a builder, and what it leaves readable. Assumes nothing.
use Rattle.std.specs.Prelude.{◌≡◌, ℕ, ◌+◌, ◌%◌, ◌<◌, ◌≤◌, List, [], ◌∷◌, ◌++◌, length, take, drop}
use Rattle.format.specs.Places.{limit, Bytes}
use Rattle.format.specs.Answers.{Answer, good, bad}
use Rattle.format.specs.Meaning.{Meaning, Laws}
use Rattle.format.specs.Archive.{is_valid_deep, copy_out}
use Rattle.format.specs.Builder.{Builder, new, Finished, finish, Call, align, reserve, reserve_bytes, write, push, push_bytes, build, After, step}

-- a call that is handed the buffer as the last one left it, or another buffer
pub data Event : Type 0 where
  own : Call → Event
  other : List ℕ → Call → Event

abbrev pub call_of : Event → Call
call_of (own c) = c
call_of (other buf c) = c

-- where a life has come to
pub record Stage : Type 0 where
  pub builder : Builder
  pub buffer : List ℕ

abbrev pub met : Event → Stage → After (Answer ℕ)
met (own c) s = step c s.builder s.buffer
met (other buf c) s = step c s.builder buf

abbrev pub after : Event → Stage → Stage
after (own c) s = record { builder = (met (own c) s).builder; buffer = (met (own c) s).buffer }
after (other buf c) s = record { builder = (met (other buf c) s).builder; buffer = s.buffer }

abbrev pub lived : Stage → List Event → Stage
lived s [] = s
lived s (e ∷ es) = lived (after e s) es

-- another buffer has another length, every kind keeps the laws, and a sheet is bytes
abbrev pub Handed : ℕ → Event → Type 0
Handed room (own c) = Unit {0}
Handed room (other buf c) = length buf ≡ room → ⊥

abbrev pub Lawful : Call → Type 0
Lawful (align a) = Unit {0}
Lawful (reserve m) = Laws m
Lawful (reserve_bytes n a) = Unit {0}
Lawful (write q xs) = Unit {0}
Lawful (push m xs) = Laws m
Lawful (push_bytes xs a) = Unit {0}
Lawful (build m v) = Laws m × Bytes v

abbrev pub Life : ℕ → List Event → Type 0
Life room [] = Unit {0}
Life room (e ∷ es) = Handed room e × Lawful (call_of e) × Life room es

-- the call writes the byte at i, which was there before
abbrev pub Writes : Call → ℕ → Type 0
Writes (align a) i = ⊥
Writes (reserve m) i = ⊥
Writes (reserve_bytes n a) i = ⊥
Writes (write q xs) i = (q ≤ i) × (i < q + length xs)
Writes (push m xs) i = ⊥
Writes (push_bytes xs a) i = ⊥
Writes (build m v) i = ⊥

-- from s on, no accepted event writes a byte between p and e
abbrev pub Spared : ℕ → ℕ → Stage → List Event → Type 0
Spared p e s [] = Unit {0}
Spared p e s (x ∷ xs) = ((a i : ℕ) → (met x s).answer ≡ good a → p ≤ i → i < e → Writes (call_of x) i → ⊥) × Spared p e (after x s) xs

-- at p in a stands v as a value of m: the deep check passes, and the kept sheet is copied out wherever there is room
pub record Readable (m : Meaning) (v : List ℕ) (a : List ℕ) (p : ℕ) : Type 0 where
  pub deep : is_valid_deep m a p ≡ good p
  pub copied : (out : List ℕ) → length (m.kept v) ≤ length out → copy_out m a p out ≡ record { answer = good (length (m.kept v)); output = m.kept v ++ drop (length (m.kept v)) out }

abbrev pub answers : Stage → List Event → List (Answer ℕ)
answers s [] = []
answers s (e ∷ es) = (met e s).answer ∷ answers (after e s) es

-- x in front of xs, if a says that it was accepted
abbrev pub if_good : {A : Type 0} → Answer ℕ → A → List A → List A
if_good (good p) x xs = x ∷ xs
if_good (bad f) x xs = xs

abbrev pub accepted : Stage → List Event → List Event
accepted s [] = []
accepted s (e ∷ es) = if_good (met e s).answer e (accepted (after e s) es)

abbrev pub goods : List (Answer ℕ) → List (Answer ℕ)
goods [] = []
goods (a ∷ as') = if_good a a (goods as')

-- in an archive itself, and whatever bytes are put behind it and, in a multiple of an alignment, before it
pub record Anywhere (m : Meaning) (v : List ℕ) (a : List ℕ) (alignment p : ℕ) : Type 0 where
  pub here : Readable m v a p
  pub moved : (before behind : List ℕ) → length before % alignment ≡ 0 → length (before ++ a ++ behind) ≤ limit → Readable m v (before ++ a ++ behind) (length before + p)

-- the archive that a life leaves: the first bytes of its buffer, as many as finish answers
abbrev pub archive_left : Stage → List Event → Finished → List ℕ
archive_left s es f = take f.length (lived s es).buffer

-- the accepted events of a life from s, lived from t, have the same answers, leave the same archive and finish as f
pub record AlikeAs (s t : Stage) (es : List Event) (f : Finished) : Type 0 where
  pub answers : goods (answers s es) ≡ answers t (accepted s es)
  pub archive : archive_left s es f ≡ archive_left t (accepted s es) f
  pub finish : finish (lived t (accepted s es)).builder ≡ f

-- what a life from s leaves that finishes as f
pub record Leaves (s : Stage) (es : List Event) (f : Finished) : Type 0 where
  -- the record of each accepted build that no later accepted write fell upon
  pub readable :
      (earlier later : List Event) (m : Meaning) (v : List ℕ) (p : ℕ) → es ≡ earlier ++ (own (build m v) ∷ later) →
      (let before = lived s earlier in
      let built = after (own (build m v)) before in
      (met (own (build m v)) before).answer ≡ good p → Spared p built.builder.used built later →
      Anywhere m v (archive_left s es f) f.alignment p)
  -- without the refused events, in any buffer as long or longer, whatever it holds
  pub again : (wide : List ℕ) (c : Builder) → new wide ≡ good c → length s.buffer ≤ length wide → AlikeAs s (record { builder = c; buffer = wide }) es f

-- of every life that begins with an accepted new and whose events end in the builder b, which finishes as f: the theorem on a builder's life
abbrev pub LivesWell : Builder → Finished → Type 0
LivesWell b f = (s : Stage) (es : List Event) → new s.buffer ≡ good s.builder → Life (length s.buffer) es → (lived s es).builder ≡ b → Leaves s es f
