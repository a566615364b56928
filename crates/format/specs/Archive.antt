-- The calls on an archive. Assumes nothing.
use Rattle.std.specs.Prelude.{ℕ, true, false, List, ◌++◌, length, drop, nat_le}
use Rattle.format.specs.Places.{limit}
use Rattle.format.specs.Orders.{Order}
use Rattle.format.specs.Answers.{Answer, good, bad, fault, unless, both}
use Rattle.format.specs.Meaning.{Meaning, sits}
use Rattle.format.specs.Texts.{Part, text_at, inline_at}
use Rattle.format.specs.Items.{row}
use Rattle.format.specs.Links.{linked, Span, slice_at}

-- a root that sits in an archive within the limit
abbrev pub rooted : Meaning → List ℕ → ℕ → Answer ℕ
rooted m a p = unless (nat_le (length a) limit) (fault 1 0) (sits p p m.size m.align (length a))

abbrev pub is_valid : Meaning → List ℕ → ℕ → Answer ℕ
is_valid m a p = both (rooted m a p) (λ _. both (m.shallow a p) (λ _. good p))

-- the sheet of the root at p
abbrev pub sheet_at : Meaning → List ℕ → ℕ → Answer (List ℕ)
sheet_at m a p = both (rooted m a p) (λ _. m.reading a p)

abbrev pub is_valid_deep : Meaning → List ℕ → ℕ → Answer ℕ
is_valid_deep m a p = both (sheet_at m a p) (λ _. good p)

-- what one step from a head finds: the place of a target, items, or a text
pub data Found : Type 0 where
  found_target : ℕ → Found
  found_items : Span → Found
  found_text : Part → Found

-- one step from the head at a place of an archive: of a pointer and of a far array, of a slice, of a text and of an inline text
abbrev pub pointer_step : Meaning → Order → List ℕ → ℕ → Answer Found
pointer_step m o a p = both (linked m o a p) (λ q. good (found_target q))

abbrev pub far_array_step : ℕ → Meaning → Order → List ℕ → ℕ → Answer Found
far_array_step n m = pointer_step (row m n)

abbrev pub slice_step : Meaning → Order → List ℕ → ℕ → Answer Found
slice_step m o a p = both (slice_at m o a p) (λ s. good (found_items s))

abbrev pub text_step : Order → List ℕ → ℕ → Answer Found
text_step o a p = both (text_at o a p) (λ x. good (found_text x))

abbrev pub inline_step : ℕ → Order → List ℕ → ℕ → Answer Found
inline_step c o a p = both (inline_at c o a p) (λ x. good (found_text x))

-- the same from a root
abbrev pub get : Meaning → (List ℕ → ℕ → Answer Found) → List ℕ → ℕ → Answer Found
get m step a p = both (rooted m a p) (λ _. step a p)

-- what copy out answers, and what the output then holds
pub record Copied : Type 0 where
  pub answer : Answer ℕ
  pub output : List ℕ

abbrev pub pour : Answer (List ℕ) → List ℕ → Copied
pour (bad e) out = record { answer = bad e; output = out }
pour (good s) out = elim (nat_le (length s) (length out)) [
  | true ↦ record { answer = good (length s); output = s ++ drop (length s) out }
  | false ↦ record { answer = fault 4 0; output = out }
]

abbrev pub copy_out : Meaning → List ℕ → ℕ → List ℕ → Copied
copy_out m a p out = pour (sheet_at m a p) out
