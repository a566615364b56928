-- What the functions of a kind ask of their callers, and what they leave. Assumes nothing.
use Rattle.std.specs.Prelude.{◌≡◌, ℕ, ◌+◌, ◌%◌, ◌≤◌, min, List, length, drop, Some, None, Option}
use Rattle.format.specs.Places.{limit, put}
use Rattle.format.specs.Answers.{Answer, good, both}
use Rattle.format.specs.Sheets.{at_place}
use Rattle.format.specs.Meaning.{Meaning, Laid}
use Rattle.format.specs.Items.{first_of}

-- the value at p in a sheet
abbrev pub value_at : Meaning → List ℕ → ℕ → List ℕ
value_at m s p = first_of (m.scan (drop p s)) (drop p s)

-- a value is found at p, and the next one begins at q
abbrev pub Next : Meaning → List ℕ → ℕ → ℕ → Type 0
Next m s p q = at_place m.scan s p ≡ good q

-- a value is found at p, and its tail may start at t
pub record Askable (m : Meaning) (s : List ℕ) (p t : ℕ) : Type 0 where
  pub next : ℕ
  pub found : Next m s p next
  pub reached : t ≤ 2147483648

-- the end and the largest alignment that the layout question tells: wherever the head is put
abbrev pub Foretold : Meaning → List ℕ → ℕ → ℕ → ℕ → ℕ → Type 0
Foretold m s p t end widest = (h : ℕ) → ((m.lay (value_at m s p) h t).end ≡ end) × ((m.lay (value_at m s p) h t).widest ≡ widest)

-- a value is found at p that may be filled into a buffer, its head at h and its tail from t on
pub record Fillable (m : Meaning) (s : List ℕ) (p : ℕ) (out : List ℕ) (h t : ℕ) : Type 0 where
  pub next : ℕ
  pub found : Next m s p next
  pub aligned : h % m.align ≡ 0
  pub behind : h + m.size ≤ t
  pub starts : t ≤ length out
  pub room : (m.lay (value_at m s p) h t).end ≤ length out
  pub capped : length out ≤ limit

-- a buffer in which a value is filled
abbrev pub filled : List ℕ → ℕ → ℕ → Laid → List ℕ
filled out h t x = put (put out h x.head) t x.tail

-- a value that sits in an archive within the limit
pub record Seated (m : Meaning) (a : List ℕ) (p : ℕ) : Type 0 where
  pub capped : length a ≤ limit
  pub within : p + m.size ≤ length a
  pub aligned : p % m.align ≡ 0

-- how long the sheet is that is read, as far as 64 bits tell
abbrev pub length_read : Answer (List ℕ) → Answer ℕ
length_read r = both r (λ s. good (min (length s) 18446744073709551615))

-- every reading is accepted, and its sheet has so many bytes
abbrev pub Always : Meaning → Option ℕ → Type 0
Always m None = Unit {0}
Always m (Some n) = (a : List ℕ) (p : ℕ) → length_read (m.reading a p) ≡ good n

-- a value that is read as a sheet, and a buffer with room for it from `to` on
pub record Copyable (m : Meaning) (a : List ℕ) (p : ℕ) (out : List ℕ) (to : ℕ) : Type 0 where
  pub seated : Seated m a p
  pub sheet : List ℕ
  pub read : m.reading a p ≡ good sheet
  pub room : to + length sheet ≤ length out
