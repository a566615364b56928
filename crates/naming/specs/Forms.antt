-- The kinds that can be named, and how each is spelled. Assumes nothing.
use Rattle.std.specs.Prelude.{ℕ, zero, suc, ◌+◌, ◌/◌, ◌%◌, cond, List, [], ◌∷◌, ◌++◌, map, codes, Option, nat_eq, nat_lt}
use Rattle.std.specs.List.{find}
use Rattle.std.specs.Cmp.Lexicographic.{pointwise}

-- a kind by its parts: a number of so many bytes, an inline text of a capacity; the last four hold another kind, arrays so many of it
pub data Form : Type 0 where
  number : ℕ → Form
  truth : Form
  character : Form
  text : Form
  inline : ℕ → Form
  pointer : Form → Form
  array : ℕ → Form → Form
  far_array : ℕ → Form → Form
  slice : Form → Form

-- a number in decimal, of at most w digits
abbrev pub decimal_in : ℕ → ℕ → List ℕ
decimal_in zero n = []
decimal_in (suc w) n = cond (nat_lt n 10) ((48 + n) ∷ []) (decimal_in w (n / 10) ++ ((48 + n % 10) ∷ []))

-- counts and capacities have at most five
abbrev pub decimal : ℕ → List ℕ
decimal = decimal_in 5

-- the name of a kind, the outermost part first
abbrev pub spelled : Form → List ℕ
spelled (number w) = decimal w
spelled truth = codes "b"
spelled character = codes "c"
spelled text = codes "t"
spelled (inline c) = codes "i" ++ (decimal c ++ codes ".")
spelled (pointer f) = codes "p" ++ spelled f
spelled (array n f) = codes "r" ++ (decimal n ++ (codes "." ++ spelled f))
spelled (far_array n f) = codes "a" ++ (decimal n ++ (codes "." ++ spelled f))
spelled (slice f) = codes "s" ++ spelled f

-- the kinds that hold none, of inline texts those of two capacities
abbrev pub leaves : List Form
leaves = number 1 ∷ number 2 ∷ number 4 ∷ number 8 ∷ truth ∷ character ∷ text ∷ inline 2 ∷ inline 5 ∷ []

-- each of these kinds held by each that holds one: an array has 2 of it, a far array 3
abbrev pub held : List Form → List Form
held fs = map pointer fs ++ (map (array 2) fs ++ (map (far_array 3) fs ++ map slice fs))

-- the leaves, alone, held by one and, two of them, held by two
abbrev pub shallow : List Form
shallow = leaves ++ held (leaves ++ held (number 2 ∷ text ∷ []))

-- some that are deeper, and a few like those above, by what is outermost: a pointer, a slice, or what has a count or a capacity
abbrev pub deep_pointers : List Form
deep_pointers =
    pointer (slice (slice text)) ∷ pointer (pointer (number 8)) ∷ pointer (pointer (pointer (number 1))) ∷ pointer (slice (far_array 3 (inline 5)))
    ∷ pointer (array 2 (slice text)) ∷ []

abbrev pub deep_slices : List Form
deep_slices =
    slice (slice (number 8)) ∷ slice (slice (slice (number 2))) ∷ slice (pointer (slice truth)) ∷ slice (far_array 3 (array 2 (number 8)))
    ∷ slice (slice (array 2 (number 1))) ∷ slice (pointer (slice text)) ∷ []

abbrev pub deep_counted : List Form
deep_counted =
    inline 4 ∷ array 2 (pointer truth) ∷ array 2 (slice (array 2 character)) ∷ far_array 3 (far_array 3 (far_array 3 (number 1)))
    ∷ array 2 (array 2 (array 2 truth)) ∷ far_array 3 (pointer (slice text)) ∷ []

abbrev pub deeper : List Form
deeper = deep_pointers ++ (deep_slices ++ deep_counted)

-- an array of 65,535 of a kind
abbrev pub most : Form → Form
most = array 65535

-- kinds whose size stops
abbrev pub vast : List Form
vast =
    most (most (number 8)) ∷ slice (most (most (number 8))) ∷ most (most (most (most (number 8)))) ∷ pointer (most (most (most (most (number 8)))))
    ∷ slice (most (most (most (most (number 8))))) ∷ array 32767 (inline 65535) ∷ []

-- counts and a capacity that no kind has: these names are known, and refused
abbrev pub bad_counts : List Form
bad_counts = array 0 (number 1) ∷ far_array 65536 (number 1) ∷ inline 0 ∷ []

-- all that can be named, in the order in which a name is looked for
abbrev pub catalogue : List Form
catalogue = shallow ++ (deeper ++ (vast ++ bad_counts))

-- the first of these that is spelled so, if one is
abbrev pub named_among : List Form → List ℕ → Option Form
named_among fs name = find (λ f. pointwise nat_eq name (spelled f)) fs

-- the kind of a name, if the catalogue has it
abbrev pub form_of : List ℕ → Option Form
form_of = named_among catalogue
