-- Laws of answers: which way a test goes, and what two in a row answer. Assumes nothing.
use Rattle.std.proofs.Common.{◌≡◌, ℕ, ◌+◌, Bool, true, false, List, drop, sym, refl, ap, ◌∙◌, add-zero, arith}
use Rattle.format.specs.Answers.{Answer, Fault, good, bad, fault, both, unless, shifted, further, inside}
use Rattle.format.specs.Sheets.{at_place}

pub unless-true : {A : Type 0} (b : Bool) (x y : Answer A) → b ≡ true → unless b x y ≡ y
unless-true b x y e = ap (λ z. unless z x y) e

pub unless-false : {A : Type 0} (b : Bool) (x y : Answer A) → b ≡ false → unless b x y ≡ x
unless-false b x y e = ap (λ z. unless z x y) e

pub both-good : {A B : Type 0} (x : Answer A) (a : A) (f : A → Answer B) → x ≡ good a → both x f ≡ f a
both-good x a f e = ap (λ z. both z f) e

pub both-bad : {A B : Type 0} (x : Answer A) (e : Fault) (f : A → Answer B) → x ≡ bad e → both x f ≡ bad e
both-bad x e f p = ap (λ z. both z f) p

pub fault-further : {A : Type 0} (n k p : ℕ) → p ≡ k → ◌≡◌ {A = Answer A} (bad (further k (record { number = n; place = 0; depth = 0 }))) (fault n p)
fault-further {A} n k p e = ap (λ z. bad (record { number = n; place = z; depth = 0 })) (add-zero k ∙ sym e)

-- what a scan says of a front, by the place where the front stands
module _ (scan : List ℕ → Answer ℕ) (s : List ℕ) (p : ℕ) where
  pub at_place-good : (e : ℕ) → scan (drop p s) ≡ good e → at_place scan s p ≡ good (p + e)
  at_place-good e h = ap (λ z. shifted p (both z (λ e. good (p + e)))) h

  pub at_place-bad : (e : Fault) → scan (drop p s) ≡ bad e → at_place scan s p ≡ bad (further p e)
  at_place-bad e h = ap (λ z. shifted p (both z (λ e. good (p + e)))) h

  -- a fault of the value itself stands at its mark
  pub at_place-fault : (n : ℕ) → scan (drop p s) ≡ fault n 0 → at_place scan s p ≡ fault n p
  at_place-fault n h = at_place-bad (record { number = n; place = 0; depth = 0 }) h ∙ fault-further n p p refl

-- where an accepted scan ends, and its front
pub at_place-end : (scan : List ℕ → Answer ℕ) (s : List ℕ) (p q : ℕ) → at_place scan s p ≡ good q → (e : ℕ) × ((scan (drop p s) ≡ good e) × (q ≡ p + e))
at_place-end scan s p q h = go (scan (drop p s)) refl where
  go : (y : Answer ℕ) → scan (drop p s) ≡ y → (e : ℕ) × ((scan (drop p s) ≡ good e) × (q ≡ p + e))
  go (good e) k = let m = sym h ∙ at_place-good scan s p e k in let z : q ≡ p + e = cc in (e, (k, z))
  go (bad f) k = let m = sym h ∙ at_place-bad scan s p f k in let z : ◌≡◌ {A = ℕ} 0 1 = cc in absurd (omega arith)

-- a scan that is followed by another: its fault is the fault of both
module _ (scan : List ℕ → Answer ℕ) (next : List ℕ → ℕ → Answer ℕ) (s : List ℕ) (p : ℕ) where
  pub at_place_then_bad : (e : Fault) → at_place scan s p ≡ bad e → at_place (λ v. both (scan v) (next v)) s p ≡ bad e
  at_place_then_bad e h = go (scan (drop p s)) refl where
    go : (x : Answer ℕ) → scan (drop p s) ≡ x → at_place (λ v. both (scan v) (next v)) s p ≡ bad e
    go (good q) eq = let z : ◌≡◌ {A = ℕ} 0 1 = cc (at_place-good scan s p q eq) in absurd (omega arith)
    go (bad f) eq =
        at_place-bad (λ v. both (scan v) (next v)) s p f (ap (λ z. both z (next (drop p s))) eq) ∙ (sym (at_place-bad scan s p f eq) ∙ h)

-- a value that is read behind a scan: both answer, or the scan's fault is the answer
module _ {A : Type 0} (scan : List ℕ → Answer ℕ) (s : List ℕ) (p : ℕ) (v : A) where
  pub read-good : (x : A) → both (at_place scan s p) (λ _. good v) ≡ good x → (e : ℕ) × ((scan (drop p s) ≡ good e) × ((at_place scan s p ≡ good (p + e)) × (v ≡ x)))
  read-good x h = go (scan (drop p s)) refl where
    go : (y : Answer ℕ) → scan (drop p s) ≡ y → (e : ℕ) × ((scan (drop p s) ≡ good e) × ((at_place scan s p ≡ good (p + e)) × (v ≡ x)))
    go (good e) k =
        let there = at_place-good scan s p e k in
        let m = sym (both-good (at_place scan s p) (p + e) (λ _. good v) there) ∙ h in
        (e, (k, (there, cc)))
    go (bad f) k =
        let m = sym (both-bad (at_place scan s p) (further p f) (λ _. good v) (at_place-bad scan s p f k)) ∙ h in
        let z : ◌≡◌ {A = ℕ} 0 1 = cc in absurd (omega arith)

  pub read-bad : (f : Fault) → both (at_place scan s p) (λ _. good v) ≡ bad f → at_place scan s p ≡ bad f
  read-bad f h = go (at_place scan s p) refl where
    go : (y : Answer ℕ) → at_place scan s p ≡ y → at_place scan s p ≡ bad f
    go (good e) k = let m = sym (both-good (at_place scan s p) e (λ _. good v) k) ∙ h in let z : ◌≡◌ {A = ℕ} 0 1 = cc in absurd (omega arith)
    go (bad g) k = let m = sym (both-bad (at_place scan s p) g (λ _. good v) k) ∙ h in let z : g ≡ f = cc in k ∙ ap bad z

-- of three in a row, a second that always answers
pub both-both : {A B C : Type 0} (x : Answer A) (f : A → B) (g : B → Answer C) → both (both x (λ a. good (f a))) g ≡ both x (λ a. g (f a))
both-both (good a) f g = refl
both-both (bad e) f g = refl

-- a test and two steps are one, where what follows takes no value of theirs
pub both-both_unused : {A B C : Type 0} (t : Bool) (f : Fault) (x : Answer A) (g : A → Answer B) (y : Answer C) → unless t (bad f) (both x (λ a. both (g a) (λ _. y))) ≡ both (unless t (bad f) (both x g)) (λ _. y)
both-both_unused false f x g y = refl
both-both_unused true f (bad e) g y = refl
both-both_unused true f (good a) g y = refl

-- a good answer, taken apart
pub both_parts : {A B : Type 0} (x : Answer A) (f : A → Answer B) (b : B) → both x f ≡ good b → (a : A) × ((x ≡ good a) × (f a ≡ good b))
both_parts (good a) f b h = (a, (refl, h))
both_parts (bad e) f b h = let z : ◌≡◌ {A = ℕ} 0 1 = cc in absurd (omega arith)

pub unless_parts : {A : Type 0} (t : Bool) (e : Fault) (y : Answer A) (b : A) → unless t (bad e) y ≡ good b → (t ≡ true) × (y ≡ good b)
unless_parts true e y b h = (refl, h)
unless_parts false e y b h = let z : ◌≡◌ {A = ℕ} 0 1 = cc in absurd (omega arith)

pub inside-good : {A : Type 0} (x : Answer A) (a : A) → inside x ≡ good a → x ≡ good a
inside-good (good b) a h = h
inside-good (bad e) a h = let z : ◌≡◌ {A = ℕ} 0 1 = cc in absurd (omega arith)

pub shifted-good : {A : Type 0} (n : ℕ) (x : Answer A) (a : A) → shifted n x ≡ good a → x ≡ good a
shifted-good n (good b) a h = h
shifted-good n (bad e) a h = let z : ◌≡◌ {A = ℕ} 0 1 = cc in absurd (omega arith)

pub good-same : {A : Type 0} (a b : A) → good a ≡ good b → a ≡ b
good-same a b h = cc
