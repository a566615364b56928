-- Places, sizes and parts of a list of bytes. Assumes nothing.
use Rattle.std.specs.Prelude.{◌≡◌, ℕ, ◌+◌, ◌-◌, ◌*◌, ◌/◌, ◌^◌, ◌<◌, ◌≤◌, min, List, [], ◌∷◌, ◌++◌, length, take, drop, replicate}

-- the most bytes that an archive, or a sheet that is built, has
abbrev pub limit : ℕ
limit = 2147483647

-- where sizes, ends and depths stop
abbrev pub stop : ℕ → ℕ
stop n = min n 2147483648

-- the least multiple of a that is not below q
abbrev pub up : ℕ → ℕ → ℕ
up q a = (q + (a - 1)) / a * a

-- n is 1, 2, 4 and so on up to 4,096
abbrev pub Alignment : ℕ → Type 0
Alignment n = (k : ℕ) × ((k ≤ 12) × (n ≡ 2 ^ k))

abbrev pub zeros : ℕ → List ℕ
zeros n = replicate n 0

-- n bytes of xs from p on
abbrev pub part : ℕ → ℕ → List ℕ → List ℕ
part p n xs = take n (drop p xs)

-- buf with xs put over it at p
abbrev pub put : List ℕ → ℕ → List ℕ → List ℕ
put buf p xs = take p buf ++ (xs ++ drop (p + length xs) buf)

-- xs stands in a at p, and within a also where xs is empty
pub record Holds (a : List ℕ) (p : ℕ) (xs : List ℕ) : Type 0 where
  pub within : p + length xs ≤ length a
  pub same : part p (length xs) a ≡ xs

abbrev pub Bytes : List ℕ → Type 0
Bytes [] = Unit {0}
Bytes (b ∷ bs) = (b < 256) × Bytes bs
