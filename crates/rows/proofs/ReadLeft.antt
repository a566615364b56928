-- A row that is read item by item: what is left answers for the whole. Assumes nothing.
use Rattle.std.proofs.Common.{◌≡◌, ℕ, zero, suc, ◌+◌, ◌-◌, ◌*◌, ◌%◌, ◌<◌, ◌≤◌, min, List, ◌++◌, length, Some, sym, refl, ap, ◌∙◌, mul-le-mul_right, add-mul, add-one, mul-zero, mul-suc, arith}
use Rattle.std.proofs.lemmas.List.{length-append}
use Rattle.format.specs.Answers.{Answer, Fault, good, bad, both}
use Rattle.format.specs.Meaning.{Meaning, Keeps}
use Rattle.format.specs.Items.{shallow_items, read_items, row}
use Rattle.format.proofs.AnswerLaws.{both-good, both-bad}
use Rattle.format.proofs.RoundLaws.{mod_sum}
use Rattle.kind.specs.Asked.{Seated, length_read, Always}

-- how many items are left
pub left_suc : (n i : ℕ) → i < n → n - i ≡ suc (n - (i + 1))
left_suc n i h = omega arith

pub left_zero : (n i : ℕ) → n ≤ i → n - i ≡ 0
left_zero n i h = omega arith

-- the head behind i items, the first of which is at p
abbrev pub head : Meaning → (p i : ℕ) → ℕ
head m p i = p + i * m.size

pub head-none : (m : Meaning) (p : ℕ) → head m p 0 ≡ p
head-none m p = omega arith

pub head-more : (m : Meaning) (p i : ℕ) → head m p (i + 1) ≡ head m p i + m.size
head-more m p i = let e = add-mul i 1 m.size in omega arith

head_aligned : (m : Meaning) → Keeps m → (p i : ℕ) → p % m.align ≡ 0 → head m p i % m.align ≡ 0
head_aligned m k p zero h = ap (λ z. z % m.align) (head-none m p) ∙ h
head_aligned m k p (suc i) h =
    ap (λ z. head m p z % m.align) (sym (add-one i)) ∙ (ap (λ z. z % m.align) (head-more m p i) ∙ mod_sum m.align (head m p i) m.size (head_aligned m k p i h) k.whole)

module _ (m : Meaning) (n : ℕ) {a : List ℕ} {p : ℕ} (w : Seated (row m n) a p) where
  pub head_within : (i : ℕ) → i ≤ n → head m p i ≤ length a
  head_within i h =
      let f : i * m.size ≤ n * m.size = mul-le-mul_right m.size h in
      let c = w.capped in
      let d = w.within in
      omega arith

  pub head-seated : Keeps m → (i q : ℕ) → i < n → q ≡ head m p i → Seated m a q
  head-seated k i q h e = record {
    capped = w.capped;
    within = let f = head_within (i + 1) (omega arith) in let g = head-more m p i in omega arith;
    aligned = ap (λ z. z % m.align) e ∙ head_aligned m k p i w.aligned;
  }

-- one look at each head
pub record ShallowLeft (m : Meaning) (n : ℕ) (a : List ℕ) (p i : ℕ) : Type 0 where
  pub whole : shallow_items m n a p ≡ shallow_items m (n - i) a (head m p i)

module _ {m : Meaning} {n : ℕ} {a : List ℕ} {p i : ℕ} (l : ShallowLeft m n a p i) where
  module _ (h : i < n) (q : ℕ) (e : q ≡ head m p i) where
    looked : shallow_items m n a p ≡ both (m.shallow a q) (λ _. shallow_items m (n - (i + 1)) a (head m p (i + 1)))
    looked =
        l.whole ∙ (ap (λ z. shallow_items m z a (head m p i)) (left_suc n i h) ∙
        (ap (λ z. both (m.shallow a (head m p i)) (λ _. shallow_items m (n - (i + 1)) a z)) (sym (head-more m p i)) ∙ ap (λ z. both (m.shallow a z) (λ _. shallow_items m (n - (i + 1)) a (head m p (i + 1)))) (sym e)))

    pub shallow-more : (r : ℕ) → m.shallow a q ≡ good r → ShallowLeft m n a p (i + 1)
    shallow-more r f = record { whole = looked ∙ both-good (m.shallow a q) r _ f }

    pub shallow-bad : (f : Fault) → m.shallow a q ≡ bad f → shallow_items m n a p ≡ bad f
    shallow-bad f g = looked ∙ both-bad (m.shallow a q) f _ g

  pub shallow_all : n ≤ i → (q : ℕ) → q ≡ head m p i → shallow_items m n a p ≡ good q
  shallow_all h q e = l.whole ∙ (ap (λ z. shallow_items m z a (head m p i)) (left_zero n i h) ∙ ap good (sym e))

-- all that is read from each head: t bytes, and what is left
abbrev most : ℕ
most = 18446744073709551615

abbrev after : ℕ → Answer ℕ → Answer ℕ
after t x = both x (λ r. good (min (t + r) most))

pub record DeepLeft (m : Meaning) (n : ℕ) (a : List ℕ) (p i t : ℕ) : Type 0 where
  pub capped : t ≤ most
  pub whole : length_read (read_items m n a p) ≡ after t (length_read (read_items m (n - i) a (head m p i)))

after_none : (x : Answer (List ℕ)) → length_read x ≡ after 0 (length_read x)
after_none (good s) = let k : min (length s) most ≡ min (0 + min (length s) most) most = omega arith in ap good k
after_none (bad f) = refl

-- one item before the others
one_more :
    (t d u : ℕ) (x y : Answer (List ℕ)) → length_read x ≡ good d → u ≡ min (t + d) most →
    after t (length_read (both x (λ s. both y (λ r. good (s ++ r))))) ≡ after u (length_read y)
one_more t d u (bad f) y e k = let z : ◌≡◌ {A = ℕ} 0 1 = cc in absurd (omega arith)
one_more t d u (good s) (bad f) e k = refl
one_more t d u (good s) (good r) e k =
    let z : min (length s) most ≡ d = cc in
    let l = length-append s r in
    let same : min (t + min (length (s ++ r)) most) most ≡ min (u + min (length r) most) most = omega arith in
    ap good same

one-bad : (t : ℕ) (f : Fault) (x y : Answer (List ℕ)) → length_read x ≡ bad f → after t (length_read (both x (λ s. both y (λ r. good (s ++ r))))) ≡ bad f
one-bad t f (bad g) y e = let z : g ≡ f = cc in ap bad z
one-bad t f (good s) y e = let z : ◌≡◌ {A = ℕ} 0 1 = cc in absurd (omega arith)

module _ {m : Meaning} {n : ℕ} {a : List ℕ} {p i t : ℕ} (l : DeepLeft m n a p i t) where
  module _ (h : i < n) (q : ℕ) (e : q ≡ head m p i) where
    rest : Answer (List ℕ)
    rest = read_items m (n - (i + 1)) a (head m p (i + 1))

    read : length_read (read_items m n a p) ≡ after t (length_read (both (m.reading a q) (λ s. both rest (λ r. good (s ++ r)))))
    unfolding rest
    read =
        l.whole ∙ (ap (λ z. after t (length_read (read_items m z a (head m p i)))) (left_suc n i h) ∙
        (ap (λ z. after t (length_read (both (m.reading a (head m p i)) (λ s. both (read_items m (n - (i + 1)) a z) (λ r. good (s ++ r)))))) (sym (head-more m p i)) ∙
        ap (λ z. after t (length_read (both (m.reading a z) (λ s. both rest (λ r. good (s ++ r)))))) (sym e)))

    pub deep_more : (d u : ℕ) → length_read (m.reading a q) ≡ good d → u ≡ min (t + d) most → DeepLeft m n a p (i + 1) u
    unfolding rest
    deep_more d u f g = record { capped = omega arith; whole = read ∙ one_more t d u (m.reading a q) rest f g }

    pub deep-bad : (f : Fault) → length_read (m.reading a q) ≡ bad f → length_read (read_items m n a p) ≡ bad f
    deep-bad f g = read ∙ one-bad t f (m.reading a q) rest g

  pub deep_all : n ≤ i → length_read (read_items m n a p) ≡ good t
  deep_all h =
      let c = l.capped in
      let k : min (t + min 0 most) most ≡ t = omega arith in
      l.whole ∙ (ap (λ z. after t (length_read (read_items m z a (head m p i)))) (left_zero n i h) ∙ ap good k)

-- items that are always read, with a sheet of k bytes each
pub deep_always : (m : Meaning) (k : ℕ) → Always m (Some k) → (n : ℕ) (a : List ℕ) (p : ℕ) → length_read (read_items m n a p) ≡ good (min (k * n) most)
deep_always m k h zero a p = let e = mul-zero k in let z : min 0 most ≡ min (k * 0) most = omega arith in ap good z
deep_always m k h (suc n) a p =
    let x = m.reading a p in
    let y = read_items m n a (p + m.size) in
    let e = mul-suc k n in
    let z : min (min (0 + k) most + min (k * n) most) most ≡ min (k * suc n) most = omega arith in
    after_none (both x (λ s. both y (λ r. good (s ++ r)))) ∙ (one_more 0 k (min (0 + k) most) x y (h a p) refl ∙ (ap (after (min (0 + k) most)) (deep_always m k h n a (p + m.size)) ∙ ap good z))
