-- Lists of bytes that are joined, cut, turned round and put over others. Assumes nothing.
use Rattle.std.proofs.Common.{◌≡◌, ℕ, zero, suc, ◌+◌, ◌≤◌, List, [], ◌∷◌, ◌++◌, reverse, length, take, drop, get_or, sym, ap, ◌∙◌, ap₂, append_assoc, arith, lit<, w8, Fits}
use mathlib.Core.List.{reverse-cons}
use Rattle.std.proofs.lemmas.List.{length-append, length-take, length-take-le, length-drop, take_at, drop_at, take-take, drop-take, take-append-drop}
use Rattle.format.specs.Places.{Bytes, part, put, zeros}

pub bytes-append : (xs ys : List ℕ) → Bytes xs → Bytes ys → Bytes (xs ++ ys)
bytes-append [] ys a b = b
bytes-append (x ∷ xs) ys a b = (a.0, bytes-append xs ys a.1 b)

pub bytes-reverse : (xs : List ℕ) → Bytes xs → Bytes (reverse xs)
bytes-reverse [] a = tt
bytes-reverse (x ∷ xs) a = rw reverse-cons (bytes-append (reverse xs) (x ∷ []) (bytes-reverse xs a.1) (a.0, tt))

pub bytes_take : (n : ℕ) (xs : List ℕ) → Bytes xs → Bytes (take n xs)
bytes_take zero xs a = tt
bytes_take (suc n) [] a = tt
bytes_take (suc n) (x ∷ xs) a = (a.0, bytes_take n xs a.1)

pub bytes_drop : (n : ℕ) (xs : List ℕ) → Bytes xs → Bytes (drop n xs)
bytes_drop zero xs a = a
bytes_drop (suc n) [] a = tt
bytes_drop (suc n) (x ∷ xs) a = bytes_drop n xs a.1

pub bytes-part : (p n : ℕ) (xs : List ℕ) → Bytes xs → Bytes (part p n xs)
bytes-part p n xs a = bytes_take n (drop p xs) (bytes_drop p xs a)

pub bytes-put : (buf : List ℕ) (p : ℕ) (xs : List ℕ) → Bytes buf → Bytes xs → Bytes (put buf p xs)
bytes-put buf p xs a b =
    bytes-append (take p buf) (xs ++ drop (p + length xs) buf) (bytes_take p buf a) (bytes-append xs (drop (p + length xs) buf) b (bytes_drop (p + length xs) buf a))

pub length_part : (p n : ℕ) (xs : List ℕ) → p + n ≤ length xs → length (part p n xs) ≡ n
length_part p n xs h = length-take-le n (drop p xs) (simp length-drop (omega arith))

pub length-put : (buf : List ℕ) (p : ℕ) (xs : List ℕ) → p + length xs ≤ length buf → length (put buf p xs) ≡ length buf
length-put buf p xs h = simp (length-append, length-take, length-drop) (omega arith)

-- what was put is there
pub part-put : (buf : List ℕ) (p : ℕ) (xs : List ℕ) (n : ℕ) → length xs ≡ n → p ≤ length buf → part p n (put buf p xs) ≡ xs
part-put buf p xs n e h =
    ap (take n) (drop_at (take p buf) (xs ++ drop (p + length xs) buf) p (length-take-le p buf h)) ∙ take_at xs (drop (p + length xs) buf) n e

-- a front that is taken apart
pub take_sum : (i j : ℕ) (v : List ℕ) → take (i + j) v ≡ take i v ++ take j (drop i v)
take_sum i j v = sym (take-append-drop i (take (i + j) v)) ∙ ap₂ ◌++◌ (take-take i (i + j) v (omega arith)) (drop-take i j v)

pub take_sum_append : (i j : ℕ) (v t : List ℕ) → take (i + j) v ++ t ≡ take i v ++ (take j (drop i v) ++ t)
take_sum_append i j v t = ap (λ z. z ++ t) (take_sum i j v) ∙ append_assoc (take i v) (take j (drop i v)) t

pub bytes-zeros : (n : ℕ) → Bytes (zeros n)
bytes-zeros zero = tt
bytes-zeros (suc n) = (lit< tt, bytes-zeros n)

-- what a slice of bytes holds
pub typed_bytes : (bs : List ℕ) → ((i : ℕ) → Fits w8 (get_or bs i 0)) → Bytes bs
typed_bytes [] f = tt
typed_bytes (b ∷ bs) f = ((f 0).fits, typed_bytes bs (λ i. f (suc i)))
