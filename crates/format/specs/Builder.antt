-- The calls on a builder. Assumes nothing.
use Rattle.std.specs.Prelude.{ℕ, ◌+◌, ◌-◌, max, Bool, false, ◌||◌, List, [], ◌∷◌, ◌++◌, length, ◌==◌, nat_le}
use Rattle.format.specs.Places.{limit, stop, up, zeros, put}
use Rattle.format.specs.Answers.{Answer, good, bad, fault, unless, both}
use Rattle.format.specs.Sheets.{ended}
use Rattle.format.specs.Meaning.{Meaning}

pub record Builder : Type 0 where
  -- how much of the buffer is the archive so far
  pub used : ℕ
  -- the largest alignment so far
  pub align : ℕ
  -- how long the buffer was at the start
  pub room : ℕ

abbrev pub new : List ℕ → Answer Builder
new buf = unless (nat_le (length buf) limit) (fault 1 0) (good (record { used = 0; align = 1; room = length buf }))

pub record Finished : Type 0 where
  pub length : ℕ
  pub alignment : ℕ

abbrev pub finish : Builder → Finished
finish b = record { length = b.used; alignment = b.align }

-- the seven events: what a builder can be asked
pub data Call : Type 0 where
  align : ℕ → Call
  reserve : Meaning → Call
  reserve_bytes : ℕ → ℕ → Call
  write : ℕ → List ℕ → Call
  push : Meaning → List ℕ → Call
  push_bytes : List ℕ → ℕ → Call
  build : Meaning → List ℕ → Call

-- what calls answer, and the builder and the buffer after them
pub record After (A : Type 0) : Type 0 where
  pub answer : A
  pub builder : Builder
  pub buffer : List ℕ

-- what a call would do: a place to answer, the bytes to put from the used length on or at a place, and the new length and alignment
pub record Change : Type 0 where
  pub answer : ℕ
  pub from : ℕ
  pub bytes : List ℕ
  pub used : ℕ
  pub align : ℕ

-- an alignment that may be asked for: 0, or a power of two up to 4,096
abbrev pub listed : ℕ → List ℕ → Bool
listed a [] = false
listed a (x ∷ xs) = a == x || listed a xs

abbrev pub allowed : ℕ → Bool
allowed a = listed a (0 ∷ 1 ∷ 2 ∷ 4 ∷ 8 ∷ 16 ∷ 32 ∷ 64 ∷ 128 ∷ 256 ∷ 512 ∷ 1024 ∷ 2048 ∷ 4096 ∷ [])

-- where the value of a sheet ends that is all of the sheet
abbrev pub whole : Meaning → List ℕ → Answer ℕ
whole m v = unless (nat_le (length v) limit) (fault 1 0) (both (m.scan v) (ended v))

module _ (b : Builder) where
  -- xs behind zeros up to the next multiple of a, which is not 0
  abbrev pub appended : ℕ → List ℕ → Answer Change
  appended a xs =
      let p = up b.used a in
      unless (nat_le (p + length xs) b.room) (fault 4 0)
      (good (record { answer = p; from = b.used; bytes = zeros (p - b.used) ++ xs; used = p + length xs; align = max b.align a }))

  -- what each call would change, or its refusal
  abbrev pub change : Call → Answer Change
  change (align a) = unless (allowed a) (fault 3 0) (appended (max 1 a) [])
  change (reserve m) = appended m.align (zeros m.size)
  change (reserve_bytes n a) = unless (allowed a) (fault 3 0) (appended (max 1 a) (zeros n))
  change (write p xs) = unless (nat_le (p + length xs) b.used) (fault 5 0) (good (record { answer = p; from = p; bytes = xs; used = b.used; align = b.align }))
  change (push m xs) = unless (length xs == m.size) (fault 6 0) (appended m.align xs)
  change (push_bytes xs a) = unless (allowed a) (fault 3 0) (appended (max 1 a) xs)
  change (build m v) =
      unless (nat_le (length v) limit) (fault 1 0)
      (both (m.scan v) (λ e. both (ended v e) (λ _.
      let h = up b.used m.align in
      let x = m.lay v h (stop (h + m.size)) in
      unless (nat_le x.end b.room) (fault 4 0)
      (good (record { answer = h; from = b.used; bytes = zeros (h - b.used) ++ (x.head ++ x.tail); used = x.end; align = max b.align x.widest })))))

abbrev pub done : Builder → List ℕ → Answer Change → After (Answer ℕ)
done b buf (bad e) = record { answer = bad e; builder = b; buffer = buf }
done b buf (good c) = record { answer = good c.answer; builder = record { used = c.used; align = c.align; room = b.room }; buffer = put buf c.from c.bytes }

-- a call that is handed buf
abbrev pub step : Call → Builder → List ℕ → After (Answer ℕ)
step c b buf = done b buf (unless (length buf == b.room) (fault 2 0) (change b c))
