-- The test of an alignment by its bits. Assumes nothing.
use Rattle.std.proofs.Common.{◌≡◌, ℕ, zero, suc, ◌+◌, ◌*◌, ◌/◌, ◌%◌, ◌^◌, ◌<◌, ◌≤◌, max, true, false, sym, ap, ◌∙◌, subst, ⊎_elim, div-add-mod', mod-lt, arith, pow_pos, pow-suc}
use Rattle.std.specs.Prelude.{count_ones}
use Rattle.std.specs.Int.{is_power_of_two}
use Rattle.std.proofs.lemmas.Nat.{zero_from_ones}
use Rattle.std.proofs.lemmas.Bool.{eqb-true, eq-eqb, false_from_ne_true, cases_lt}
use lib.Count.{ones_step, ones_cat, ones-ones, ones-le}
use lib.Pow.{pow-lt}
use Rattle.format.specs.Places.{Alignment}
use Rattle.format.specs.Builder.{allowed}
use Rattle.format.proofs.RoundLaws.{alignment_most}
use Rattle.format.proofs.BuilderLaws.{allowed-power}
use Rattle.builder.specs.Alignments.{Power}
use Rattle.builder.proofs.Facts.{power}

-- a number of k digits, one of them set
one_set : (k n : ℕ) → n < 2 ^ k → count_ones n ≡ 1 → (j : ℕ) × (n ≡ 2 ^ j)
one_set zero n h e = let none = ones-le 0 n h in absurd (omega arith)
one_set (suc k) n h e =
    let step = ones_step n in
    let split = div-add-mod' n 2 in
    let low : n % 2 < 2 = mod-lt n (omega arith) in
    let twice = pow-suc 2 k in
    ⊎_elim
    (λ (even : n % 2 < 1).
    let rest = one_set k (n / 2) (omega arith) (omega arith) in
    let is = rest.1 in
    let more = pow-suc 2 rest.0 in
    (suc rest.0, omega arith))
    (λ (odd : 1 ≤ n % 2). let none = zero_from_ones (n / 2) (omega arith) in (0, omega arith))
    (cases_lt (n % 2) 1)

-- what has one bit is an alignment up to 4,096
pub one_bit : (a : ℕ) → a ≤ 4096 → is_power_of_two a ≡ true → Power a
one_bit a small h =
    let r = one_set 13 a (omega arith) (eqb-true (count_ones a) 1 h) in
    power a (r.0, (⊎_elim (λ (l : 12 < r.0). let more = pow-lt l in let is = r.1 in absurd (omega arith)) (λ l. l) (cases_lt 12 r.0), r.1))

-- and an alignment has one
bit_of_power : (k : ℕ) → is_power_of_two (2 ^ k) ≡ true
bit_of_power k =
    let e : 2 ^ k ≡ 1 * 2 ^ k + 0 = omega arith in
    let one = ones-ones 1 in
    let none = ones-ones 0 in
    let cat = ones_cat k 1 0 (pow_pos k) in
    let same : count_ones (2 ^ k) ≡ count_ones (1 * 2 ^ k + 0) = ap count_ones e in
    eq-eqb (count_ones (2 ^ k)) 1 (omega arith)

alignment-bit : (a : ℕ) → Alignment a → is_power_of_two a ≡ true
alignment-bit a (k, (h, e)) = subst (λ z. is_power_of_two z ≡ true) (sym e) (bit_of_power k)

-- no other number may be asked for
pub too_large : (n : ℕ) → 4096 < max 1 n → allowed n ≡ false
too_large n h = false_from_ne_true (allowed n) (λ k. let small = alignment_most (max 1 n) (allowed-power n k) in absurd (omega arith))

pub other_bits : (n : ℕ) → is_power_of_two (max 1 n) ≡ false → allowed n ≡ false
other_bits n h = false_from_ne_true (allowed n) (λ k. let one = alignment-bit (max 1 n) (allowed-power n k) in let z : true ≡ false = sym one ∙ h in absurd (cc))
