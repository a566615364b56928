-- What a kind of value means, and the laws that every kind keeps. Assumes nothing.
use Rattle.std.specs.Prelude.{◌≡◌, ℕ, ◌+◌, ◌%◌, ◌≤◌, ◌&&◌, List, ◌++◌, length, take, ◌==◌, nat_le}
use Rattle.format.specs.Places.{limit, Alignment, Holds, Bytes}
use Rattle.format.specs.Answers.{Answer, good, fault, unless}

-- a value filled in: the bytes of its head and of its tail, where the tail ends, and the largest alignment used
pub record Laid : Type 0 where
  pub head : List ℕ
  pub tail : List ℕ
  pub end : ℕ
  pub widest : ℕ

-- an array's count or an inline text's capacity, in making a kind
abbrev pub counted : ℕ → Answer ℕ
counted n = unless (nat_le 1 n && nat_le n 65535) (fault 7 0) (good n)

pub record Meaning : Type 0 where
  pub size : ℕ
  pub align : ℕ
  -- where the value at the front of a sheet ends, or its first fault
  pub scan : List ℕ → Answer ℕ
  -- the kept sheet of a value's sheet
  pub kept : List ℕ → List ℕ
  -- of a value's sheet, the place of its head and the start of its tail
  pub lay : List ℕ → ℕ → ℕ → Laid
  -- of an archive and the place of a head: the place if one look finds no fault; and the sheet that is read there
  pub shallow : List ℕ → ℕ → Answer ℕ
  pub reading : List ℕ → ℕ → Answer (List ℕ)

-- v is the sheet of one value of m, whole
abbrev pub Belongs : Meaning → List ℕ → Type 0
Belongs m v = Bytes v × (m.scan v ≡ good (length v))

-- whether n bytes at p, aligned by a, lie in an archive of so many; a refusal names the place that led there
abbrev pub sits : ℕ → ℕ → ℕ → ℕ → ℕ → Answer ℕ
sits named p n a len = unless (nat_le (p + n) len) (fault 21 named) (unless (p % a == 0) (fault 22 named) (good p))

abbrev pub Sits : Meaning → List ℕ → ℕ → Type 0
Sits m a p = (p + m.size ≤ length a) × (p % m.align ≡ 0)

-- where a value may be filled in: its head aligned, its tail behind the head, and all of it within the limit
pub record Placed (m : Meaning) (v : List ℕ) (h t : ℕ) : Type 0 where
  pub belongs : Belongs m v
  pub aligned : h % m.align ≡ 0
  pub behind : h + m.size ≤ t
  pub reached : t ≤ 2147483648
  pub fits : (m.lay v h t).end ≤ limit

-- the places h and t moved to p and s, on or back, by one multiple of w
pub record Moved (w h t p s : ℕ) : Type 0 where
  pub multiple : p % w ≡ h % w
  pub together : s + h ≡ p + t

-- all that a kind keeps but that its size is not 0: a row of no items keeps this too
pub record Keeps (m : Meaning) : Type 0 where
  -- the size is a multiple of the alignment, a power of two
  pub capped : m.size ≤ 2147483648
  pub whole : m.size % m.align ≡ 0
  pub power : Alignment m.align
  -- an accepted reading is the same in every longer archive that begins with the same bytes
  pub longer : (a b s : List ℕ) (p : ℕ) → length (a ++ b) ≤ limit → Sits m a p → m.reading a p ≡ good s → m.reading (a ++ b) p ≡ good s
  -- a kept sheet belongs, and keeping it again alters nothing
  pub kept_belongs : (v : List ℕ) → Belongs m v → Belongs m (m.kept v)
  pub kept_kept : (v : List ℕ) → Belongs m v → m.kept (m.kept v) ≡ m.kept v
  -- whatever follows a value's own bytes in a sheet, it ends alike
  pub ends : (v : List ℕ) (e : ℕ) → m.scan v ≡ good e → (e ≤ length v) × ((t : List ℕ) → m.scan (take e v ++ t) ≡ good e)
  -- the tail's end is not below its start; where it fits, head and tail have the lengths told
  pub onward : (v : List ℕ) (h t : ℕ) → Belongs m v → t ≤ 2147483648 → (t ≤ (m.lay v h t).end) × ((m.lay v h t).end ≤ 2147483648)
  pub widest_power : (v : List ℕ) (h t : ℕ) → Belongs m v → Alignment (m.lay v h t).widest × (m.align ≤ (m.lay v h t).widest)
  pub head_long : (v : List ℕ) (h t : ℕ) → Placed m v h t → length (m.lay v h t).head ≡ m.size
  pub tail_long : (v : List ℕ) (h t : ℕ) → Placed m v h t → t + length (m.lay v h t).tail ≡ (m.lay v h t).end
  pub bytes : (v : List ℕ) (h t : ℕ) → Placed m v h t → Bytes (m.lay v h t).head × Bytes (m.lay v h t).tail
  -- what was filled in is read again as its kept sheet, wherever it is moved
  pub back :
      (v : List ℕ) (h t p s : ℕ) (a : List ℕ) → Placed m v h t → Moved (m.lay v h t).widest h t p s →
      Holds a p (m.lay v h t).head → Holds a s (m.lay v h t).tail → m.reading a p ≡ good (m.kept v)

pub record Laws (m : Meaning) : Type 0 where
  pub some : 1 ≤ m.size
  pub keeps : Keeps m
