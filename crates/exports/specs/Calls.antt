-- How the calls of a life are read from bytes, as `c/gachullpi.h` lays them. Assumes nothing.
use Rattle.std.specs.Prelude.{ℕ, if◌then◌else◌, ◌==◌, nat_le, List, length, take, drop, Option, Some, None}
use Rattle.std.specs.Option.{option_map}
use Rattle.format.specs.Orders as orders
use Rattle.format.specs.Meaning.{Meaning}
use Rattle.format.specs.Builder.{Call, align, reserve, reserve_bytes, write, push, push_bytes, build}

-- what is read at the front of bytes, and the bytes behind it
pub record Front (A : Type 0) : Type 0 where
  pub what : A
  pub behind : List ℕ

-- n bytes, unless some are missing
abbrev pub bytes : ℕ → List ℕ → Option (Front (List ℕ))
bytes n s = if nat_le n (length s) then Some (record { what = take n s; behind = drop n s }) else None

-- a number of w bytes, little end first
abbrev pub number : ℕ → List ℕ → Option (Front ℕ)
number w s = option_map (λ x. record { what = orders.number x.what; behind = x.behind }) (bytes w s)

-- what is read behind something that is read first
abbrev pub read : {A B : Type 0} → Option (Front A) → (A → List ℕ → Option B) → Option B
read None next = None
read (Some x) next = next x.what x.behind

-- the parts of a call; what a call doesn't take may hold anything
pub record Parts : Type 0 where
  pub call : ℕ
  pub order : ℕ
  pub kind : List ℕ
  pub number : ℕ
  pub alignment : ℕ
  pub bytes : List ℕ

abbrev pub parts : List ℕ → Option (Front Parts)
parts s =
    read (number 1 s) (λ call s.
    read (number 1 s) (λ order s.
    read (number 1 s) (λ kind_length s.
    read (bytes kind_length s) (λ kind s.
    read (number 8 s) (λ n s.
    read (number 8 s) (λ a s.
    read (number 8 s) (λ length s.
    read (bytes length s) (λ xs s.
    Some (record { what = record { call = call; order = order; kind = kind; number = n; alignment = a; bytes = xs }; behind = s })))))))))

-- an event: known at once, or by the kind that a name means in the order of a letter
pub data Event : Type 0 where
  known : Call → Event
  named : List ℕ → ℕ → (Meaning → Call) → Event

-- what a call asks for
pub data Asked : Type 0 where
  event : Event → Asked
  finish : Asked

-- by the numbers of the header; there is no other call
abbrev pub asked : Parts → Option Asked
asked p =
    if p.call == 1 then Some (event (known (align p.alignment)))
    else if p.call == 2 then Some (event (named p.kind p.order (λ m. reserve m)))
    else if p.call == 3 then Some (event (known (reserve_bytes p.number p.alignment)))
    else if p.call == 4 then Some (event (known (write p.number p.bytes)))
    else if p.call == 5 then Some (event (named p.kind p.order (λ m. push m p.bytes)))
    else if p.call == 6 then Some (event (known (push_bytes p.bytes p.alignment)))
    else if p.call == 7 then Some (event (named p.kind p.order (λ m. build m p.bytes)))
    else if p.call == 8 then Some finish
    else None

-- the call at the front of bytes
abbrev pub first_call : List ℕ → Option (Front Asked)
first_call s = read (parts s) (λ p s. option_map (λ a. record { what = a; behind = s }) (asked p))
