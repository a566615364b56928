-- What a call answers: a value, or the fault that was met first. Assumes nothing.
use Rattle.std.specs.Prelude.{ℕ, ◌+◌, Bool, true, false}
use Rattle.format.specs.Places.{stop}

-- a refusal's number, its place, and how many values hold the faulty one
pub record Fault : Type 0 where
  pub number : ℕ
  pub place : ℕ
  pub depth : ℕ

pub data Answer (A : Type 0) : Type 0 where
  good : A → Answer A
  bad : Fault → Answer A

-- the refusal n at p, of a value that nothing holds
abbrev pub fault : {A : Type 0} → ℕ → ℕ → Answer A
fault n p = bad (record { number = n; place = p; depth = 0 })

-- the second, which is given what the first answers
abbrev pub both : {A B : Type 0} → Answer A → (A → Answer B) → Answer B
both (good a) f = f a
both (bad e) f = bad e

-- y where the test holds, and x unless it does
abbrev pub unless : {A : Type 0} → Bool → Answer A → Answer A → Answer A
unless true x y = y
unless false x y = x

-- the same fault n bytes further on, and one level deeper
abbrev pub further : ℕ → Fault → Fault
further n e = record { number = e.number; place = n + e.place; depth = e.depth }

abbrev pub deeper : Fault → Fault
deeper e = record { number = e.number; place = e.place; depth = stop (e.depth + 1) }

abbrev pub shifted : {A : Type 0} → ℕ → Answer A → Answer A
shifted n (good a) = good a
shifted n (bad e) = bad (further n e)

abbrev pub inside : {A : Type 0} → Answer A → Answer A
inside (good a) = good a
inside (bad e) = bad (deeper e)
