-- The two byte orders keep the law of byte orders: proved of the lowest first at every width, and carried over by turning round. Assumes nothing.
use Rattle.std.proofs.Common.{◌≡◌, ℕ, zero, suc, ◌+◌, ◌*◌, ◌/◌, ◌%◌, ◌^◌, ◌<◌, ◌≤◌, ◌⊎◌, List, [], ◌∷◌, reverse, length, refl, ap, ◌∙◌, ap₂, inl, inr, pow-suc, arith, lit<, lit≤, pow_pos, pow_mono}
use native.Mathlib.Nat.{mod-add-div}
use Rattle.std.proofs.lemmas.List.{length-reverse, reverse-reverse}
use Rattle.std.proofs.lemmas.Nat.{div_below, mod_below}
use Rattle.format.specs.Places.{Bytes, part, put}
use Rattle.format.specs.Orders.{Width, Order, Undoes, low_first, number, little, big}
use Rattle.format.proofs.ByteLists.{bytes-reverse, part-put}

-- of the lowest first, at every width
pub length-low_first : (w n : ℕ) → length (low_first w n) ≡ w
length-low_first zero n = refl
length-low_first (suc w) n = ap suc (length-low_first w (n / 256))

pub bytes_low_first : (w n : ℕ) → Bytes (low_first w n)
bytes_low_first zero n = tt
bytes_low_first (suc w) n = (mod_below n 256 (lit< tt), bytes_low_first w (n / 256))

pub number-low_first : (w n : ℕ) → n < 256 ^ w → number (low_first w n) ≡ n
number-low_first zero n h = omega arith
number-low_first (suc w) n h =
    ap (λ m. n % 256 + 256 * m) (number-low_first w (n / 256) (div_below n 256 (256 ^ w) (lit< tt) (rw pow-suc at h))) ∙ mod-add-div n 256

pub number_lt : (bs : List ℕ) → Bytes bs → number bs < 256 ^ length bs
number_lt [] a = lit< tt
number_lt (b ∷ bs) a = let h = number_lt bs a.1 in let l = a.0 in rw pow-suc (omega arith)

pub low_first-number : (bs : List ℕ) → Bytes bs → low_first (length bs) (number bs) ≡ bs
low_first-number [] a = refl
low_first-number (b ∷ bs) a =
    let first : (b + 256 * number bs) % 256 ≡ b = omega arith in
    let rest : (b + 256 * number bs) / 256 ≡ number bs = omega arith in
    ap₂ ◌∷◌ first (ap (low_first (length bs)) rest ∙ low_first-number bs a.1)

pub little_undoes : Undoes little
little_undoes = record {
  long = λ w n k h. length-low_first w n;
  bytes = λ w n k h. bytes_low_first w n;
  laid = λ w n k h. number-low_first w n h;
  small = λ bs k a. number_lt bs a;
  taken = λ bs k a. low_first-number bs a;
}

-- the highest first
pub big_undoes : Undoes big
big_undoes = record {
  long = λ w n k h. length-reverse (low_first w n) ∙ length-low_first w n;
  bytes = λ w n k h. bytes-reverse (low_first w n) (bytes_low_first w n);
  laid = λ w n k h. ap number (reverse-reverse (low_first w n)) ∙ number-low_first w n h;
  small = λ bs k a. rw length-reverse at (number_lt (reverse bs) (bytes-reverse bs a));
  taken = λ bs k a. ap reverse (rw length-reverse at (low_first-number (reverse bs) (bytes-reverse bs a))) ∙ reverse-reverse bs;
}

-- the widths, one by one
pub width_1 : Width 1
width_1 = (0, (lit≤ tt, refl))

pub width_2 : Width 2
width_2 = (1, (lit≤ tt, refl))

pub width_4 : Width 4
width_4 = (2, (lit≤ tt, refl))

pub width_8 : Width 8
width_8 = (3, (lit≤ tt, refl))

pub width_bounds : (w : ℕ) → Width w → (1 ≤ w) × (w ≤ 8)
width_bounds w k = let low = pow_pos k.0 in let high = pow_mono k.1.0 in let e = k.1.1 in (omega arith, omega arith)

-- in any order, a number that is laid over a buffer is taken back from there
pub taken-from-put : (o : Order) → Undoes o → (w n : ℕ) → Width w → n < 256 ^ w → (buf : List ℕ) (p : ℕ) → p ≤ length buf → o.take_back (part p w (put buf p (o.lay w n))) ≡ n
taken-from-put o law w n k h buf p l = ap o.take_back (part-put buf p (o.lay w n) w (law.long w n k h) l) ∙ law.laid w n k h

-- the four widths
pub width_cases : (w : ℕ) → Width w → (w ≡ 1) ⊎ ((w ≡ 2) ⊎ ((w ≡ 4) ⊎ (w ≡ 8)))
width_cases w (zero, (h, e)) = inl e
width_cases w (suc zero, (h, e)) = inr (inl e)
width_cases w (suc (suc zero), (h, e)) = inr (inr (inl e))
width_cases w (suc (suc (suc zero)), (h, e)) = inr (inr (inr e))
width_cases w (suc (suc (suc (suc k))), (h, e)) = absurd (omega arith)
