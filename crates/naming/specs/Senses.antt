-- What a name means: a kind, by the definitions of the format. Assumes nothing.
use Rattle.std.specs.Prelude.{ℕ, List, Option, Some, None}
use Rattle.std.specs.Option.{option_map}
use Rattle.format.specs.Orders.{Order}
use Rattle.format.specs.Answers.{Answer, good, both}
use Rattle.format.specs.Meaning.{Meaning, counted}
use Rattle.format.specs.Scalars.{number_kind, truth_kind, character_kind}
use Rattle.format.specs.Texts.{text_kind, inline_kind}
use Rattle.format.specs.Links as links
use Rattle.format.specs.Archive.{Found, pointer_step, far_array_step, slice_step, text_step, inline_step}
use Rattle.naming.specs.Forms.{Form, number, truth, character, text, inline, pointer, array, far_array, slice, form_of}

-- a kind: its meaning, and its step if it leads somewhere
pub record Sense : Type 0 where
  pub meaning : Meaning
  pub step : Option (List ℕ → ℕ → Answer Found)

-- a kind that leads nowhere, and one that leads somewhere
abbrev pub plain : Meaning → Sense
plain m = record { meaning = m; step = None }

abbrev pub leading : Meaning → (List ℕ → ℕ → Answer Found) → Sense
leading m s = record { meaning = m; step = Some s }

-- what each kind that holds makes of what it holds; a count that no kind has is refused once what is held is known
abbrev pub pointed : Order → Answer Sense → Answer Sense
pointed o k = both k (λ x. good (leading (links.pointer x.meaning o) (pointer_step x.meaning o)))

abbrev pub arrayed : ℕ → Answer Sense → Answer Sense
arrayed n k = both k (λ x. both (counted n) (λ c. good (plain (links.array c x.meaning))))

abbrev pub far_arrayed : ℕ → Order → Answer Sense → Answer Sense
far_arrayed n o k = both k (λ x. both (counted n) (λ c. good (leading (links.far_array c x.meaning o) (far_array_step c x.meaning o))))

abbrev pub sliced : Order → Answer Sense → Answer Sense
sliced o k = both k (λ x. good (leading (links.slice x.meaning o) (slice_step x.meaning o)))

-- the kind of a form in a byte order, or the refusal of a count or a capacity, the innermost first
abbrev pub meant : Order → Form → Answer Sense
meant o (number w) = good (plain (number_kind w o))
meant o truth = good (plain (truth_kind o))
meant o character = good (plain (character_kind o))
meant o text = good (leading (text_kind o) (text_step o))
meant o (inline c) = both (counted c) (λ n. good (leading (inline_kind n o) (inline_step n o)))
meant o (pointer f) = pointed o (meant o f)
meant o (array n f) = arrayed n (meant o f)
meant o (far_array n f) = far_arrayed n o (meant o f)
meant o (slice f) = sliced o (meant o f)

-- what a name means in a byte order, if the catalogue has it
abbrev pub sense_of : Order → List ℕ → Option (Answer Sense)
sense_of o name = option_map (meant o) (form_of name)
