-- Laws of rounding up and of alignments. Assumes nothing.
use Rattle.std.proofs.Common.{◌≡◌, ℕ, suc, ◌+◌, ◌-◌, ◌*◌, ◌/◌, ◌%◌, ◌^◌, ◌<◌, ◌≤◌, max, sym, ap, ◌∙◌, subst, ap₂, ⊎_elim, mod-lt, mul_assoc, suc-mul, div-add-mod', arith, pow_pos, pow_mono, pow-add}
use native.Mathlib.Nat.{mul-mod_left, mul-le-mul_right, add-mod, zero-mod, mod-add-div, add-mul-mod_self_left}
use lib.Pow.{pow-lt, mod-mod-pow}
use Rattle.std.proofs.lemmas.Bool.{cases_lt}
use Rattle.format.specs.Places.{stop, up, Alignment}

pub up_ge : (q a : ℕ) → 1 ≤ a → (q ≤ up q a) × (up q a < q + a)
up_ge q a h =
    let d = (q + (a - 1)) / a in
    let e : d * a + (q + (a - 1)) % a ≡ q + (a - 1) = div-add-mod' (q + (a - 1)) a in
    let l : (q + (a - 1)) % a < a = mod-lt (q + (a - 1)) h in
    (omega arith, omega arith)

pub up-mod : (q a : ℕ) → up q a % a ≡ 0
up-mod q a = mul-mod_left ((q + (a - 1)) / a) a

-- no other multiple is that near
pub up-least : (q a x : ℕ) → 1 ≤ a → q ≤ x → x < q + a → x % a ≡ 0 → x ≡ up q a
up-least q a x h l u m =
    let k = x / a in
    let d = (q + (a - 1)) / a in
    let e : k * a + x % a ≡ x = div-add-mod' x a in
    let e' : k * a ≡ x = omega (arith, e, m) in
    let f = up_ge q a h in
    ⊎_elim
    (λ (lt : k < d). let g : suc k * a ≤ d * a = mul-le-mul_right a lt in let s : suc k * a ≡ k * a + a = suc-mul k a in absurd (omega (arith, f, g, s, e', l, u)))
    (λ (ge : d ≤ k). ⊎_elim
    (λ (lt : d < k). let g : suc d * a ≤ k * a = mul-le-mul_right a lt in let s : suc d * a ≡ d * a + a = suc-mul d a in absurd (omega (arith, f, g, s, e', l, u)))
    (λ (le : k ≤ d). sym e' ∙ ap (λ z. z * a) (omega arith))
    (cases_lt d k))
    (cases_lt k d)

pub alignment_pos : (a : ℕ) → Alignment a → 1 ≤ a
alignment_pos a (k, (h, e)) = subst (λ z. 1 ≤ z) (sym e) (pow_pos k)

-- the exponents of two alignments stand as they do
exponent_le : (j k : ℕ) → 2 ^ j ≤ 2 ^ k → j ≤ k
exponent_le j k h = ⊎_elim (λ (l : k < j). let m : 2 ^ k < 2 ^ j = pow-lt l in absurd (omega arith)) (λ l. l) (cases_lt k j)

-- what agrees by a larger alignment agrees by a smaller one
pub same-mod : (a b x y : ℕ) → Alignment a → Alignment b → a ≤ b → x % b ≡ y % b → x % a ≡ y % a
same-mod a b x y (k, (hk, ek)) (j, (hj, ej)) le h =
    let kj : k ≤ j = exponent_le k j (subst (λ z. z ≤ 2 ^ j) ek (subst (λ z. a ≤ z) ej le)) in
    let ij : j - k + k ≡ j = omega arith in
    let low : (n : ℕ) → n % 2 ^ j % 2 ^ k ≡ n % 2 ^ k = λ n. subst (λ z. n % 2 ^ z % 2 ^ k ≡ n % 2 ^ k) ij (mod-mod-pow n (j - k) k) in
    let h' : x % 2 ^ j ≡ y % 2 ^ j = subst (λ z. x % z ≡ y % z) ej h in
    ap (λ z. x % z) ek ∙ (sym (low x) ∙ (ap (λ z. z % 2 ^ k) h' ∙ (low y ∙ ap (λ z. y % z) (sym ek))))

-- the larger of two alignments is one
pub alignment-max : (a b : ℕ) → Alignment a → Alignment b → Alignment (max a b)
alignment-max a b x y = ⊎_elim (λ l. subst Alignment (let e : b ≡ max a b = omega arith in e) y) (λ l. subst Alignment (let e : a ≡ max a b = omega arith in e) x) (cases_lt a b)

-- a place that agrees with an aligned one is aligned
pub aligned_too : (a p h : ℕ) → p % a ≡ h % a → h % a ≡ 0 → p % a ≡ 0
aligned_too a p h e z = e ∙ z

-- places that agree still do when both go on, and a place and what lies as far from it agree
pub mod_on : (w x y d : ℕ) → x % w ≡ y % w → (x + d) % w ≡ (y + d) % w
mod_on w x y d e = add-mod x d w ∙ (ap (λ z. (z + d % w) % w) e ∙ sym (add-mod y d w))

pub mod_sum : (w x y : ℕ) → x % w ≡ 0 → y % w ≡ 0 → (x + y) % w ≡ 0
mod_sum w x y e f = add-mod x y w ∙ (ap₂ (λ a b. (a + b) % w) e f ∙ zero-mod w)

pub mod-moved : (w x y q r : ℕ) → x % w ≡ y % w → r + y ≡ x + q → r % w ≡ q % w
mod-moved w x y q r e together =
    let ex = mod-add-div x w in
    let ey = mod-add-div y w in
    let same : r + w * (y / w) ≡ q + w * (x / w) = omega arith in
    sym (add-mul-mod_self_left r w (y / w)) ∙ (ap (λ z. z % w) same ∙ add-mul-mod_self_left q w (x / w))

-- where sizes stop is a multiple of every alignment
pub stop-mod : (a : ℕ) → Alignment a → 2147483648 % a ≡ 0
stop-mod a (k, (h, e)) =
    let s : 31 - k + k ≡ 31 = omega arith in
    let p : 2147483648 ≡ 2 ^ (31 - k) * 2 ^ k = ap (λ z. 2 ^ z) (sym s) ∙ pow-add 2 (31 - k) k in
    ap (λ z. 2147483648 % z) e ∙ (ap (λ z. z % 2 ^ k) p ∙ mul-mod_left (2 ^ (31 - k)) (2 ^ k))

pub stop-whole : (n s a : ℕ) → Alignment a → s % a ≡ 0 → stop (n * s) % a ≡ 0
stop-whole n s a l z =
    let e = div-add-mod' s a in
    let whole : s ≡ s / a * a = omega arith in
    let m : n * s % a ≡ 0 = ap (λ y. n * y % a) whole ∙ (ap (λ y. y % a) (sym (mul_assoc n (s / a) a)) ∙ mul-mod_left (n * (s / a)) a) in
    ⊎_elim (λ l. ap (λ y. y % a) (let k : stop (n * s) ≡ n * s = omega arith in k) ∙ m) (λ g. ap (λ y. y % a) (let k : stop (n * s) ≡ 2147483648 = omega arith in k) ∙ stop-mod a l) (cases_lt (n * s) 2147483648)

-- below where sizes stop, one item more is its size more
pub stop-more : (n s : ℕ) → stop (suc n * s) < 2147483648 → stop (suc n * s) ≡ s + stop (n * s)
stop-more n s h = let e = suc-mul n s in omega arith

-- no alignment is above 4,096
pub alignment_most : (a : ℕ) → Alignment a → a ≤ 4096
alignment_most a (k, (h, e)) = subst (λ z. z ≤ 4096) (sym e) (pow_mono {i = k} {j = 12} h)
