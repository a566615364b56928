-- Byte orders. Assumes nothing.
use Rattle.std.specs.Prelude.{◌≡◌, ℕ, zero, suc, ◌+◌, ◌*◌, ◌/◌, ◌%◌, ◌^◌, ◌<◌, ◌≤◌, List, [], ◌∷◌, reverse, length}
use Rattle.format.specs.Places.{Bytes}

-- the widths of numbers: 1, 2, 4 and 8 bytes
abbrev pub Width : ℕ → Type 0
Width w = (k : ℕ) × ((k ≤ 3) × (w ≡ 2 ^ k))

-- how a number of w bytes is laid in w bytes, and taken back
pub record Order : Type 0 where
  pub lay : ℕ → ℕ → List ℕ
  pub take_back : List ℕ → ℕ

-- the law of a byte order: at each width, each of the two undoes the other
pub record Undoes (o : Order) : Type 0 where
  pub long : (w n : ℕ) → Width w → n < 256 ^ w → length (o.lay w n) ≡ w
  pub bytes : (w n : ℕ) → Width w → n < 256 ^ w → Bytes (o.lay w n)
  pub laid : (w n : ℕ) → Width w → n < 256 ^ w → o.take_back (o.lay w n) ≡ n
  pub small : (bs : List ℕ) → Width (length bs) → Bytes bs → o.take_back bs < 256 ^ length bs
  pub taken : (bs : List ℕ) → Width (length bs) → Bytes bs → o.lay (length bs) (o.take_back bs) ≡ bs

-- w bytes of n, the lowest first
abbrev pub low_first : ℕ → ℕ → List ℕ
low_first zero n = []
low_first (suc w) n = (n % 256) ∷ low_first w (n / 256)

-- the number that bytes write, the lowest first
abbrev pub number : List ℕ → ℕ
number [] = 0
number (b ∷ bs) = b + 256 * number bs

abbrev pub little : Order
little = record { lay = low_first; take_back = number }

abbrev pub big : Order
big = record { lay = λ w n. reverse (low_first w n); take_back = λ bs. number (reverse bs) }
