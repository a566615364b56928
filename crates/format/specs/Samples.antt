-- Worked samples: the definitions at small inputs, a life as the theorem on lives speaks of, and three believable mistakes that they rule out.
-- Assumes nothing.
use Rattle.std.specs.Prelude.{◌≡◌, ℕ, List, [], ◌∷◌, ◌++◌, length, replicate}
use Rattle.format.specs.Places.{zeros}
use Rattle.format.specs.Orders.{little, big}
use Rattle.format.specs.Answers.{Answer, good, bad, fault}
use Rattle.format.specs.Meaning.{Meaning}
use Rattle.format.specs.Scalars.{number_kind}
use Rattle.format.specs.Texts.{text_kind, inline_kind}
use Rattle.format.specs.Links.{pointer, slice}
use Rattle.format.specs.Archive.{is_valid_deep, sheet_at, get, found_target, found_items, pointer_step, slice_step}
use Rattle.format.specs.Builder.{Builder, After, Finished, finish, step, align, write, push_bytes, build}
use Rattle.format.specs.Life.{Event, own, other, Stage, after, lived, Life, Spared, answers, accepted, archive_left}

-- a builder over so many bytes, as it starts
abbrev pub opened : ℕ → Builder
opened n = record { used = 0; align = 1; room = n }

-- a slice of the texts "A7" and ""
abbrev pub two_texts : List ℕ
two_texts = 0x53 ∷ 0x4c ∷ 2 ∷ 0 ∷ 0 ∷ 0 ∷ 0x54 ∷ 0x58 ∷ 2 ∷ 0 ∷ 0 ∷ 0 ∷ 0x41 ∷ 0x37 ∷ 0x54 ∷ 0x58 ∷ 0 ∷ 0 ∷ 0 ∷ 0 ∷ []

abbrev pub two_texts_little : List ℕ
two_texts_little = 2 ∷ 0 ∷ 0 ∷ 0 ∷ 4 ∷ 0 ∷ 0 ∷ 0 ∷ 2 ∷ 0 ∷ 0 ∷ 0 ∷ 0xc ∷ 0 ∷ 0 ∷ 0 ∷ 0 ∷ 0 ∷ 0 ∷ 0 ∷ 6 ∷ 0 ∷ 0 ∷ 0 ∷ 0x41 ∷ 0x37 ∷ []

abbrev pub two_texts_big : List ℕ
two_texts_big = 0 ∷ 0 ∷ 0 ∷ 2 ∷ 0 ∷ 0 ∷ 0 ∷ 4 ∷ 0 ∷ 0 ∷ 0 ∷ 2 ∷ 0 ∷ 0 ∷ 0 ∷ 0xc ∷ 0 ∷ 0 ∷ 0 ∷ 0 ∷ 0 ∷ 0 ∷ 0 ∷ 6 ∷ 0x41 ∷ 0x37 ∷ []

-- the slice's distance counted from its count, and the second text's from the first's distance
abbrev pub counted_from_the_count : List ℕ
counted_from_the_count = 2 ∷ 0 ∷ 0 ∷ 0 ∷ 8 ∷ 0 ∷ 0 ∷ 0 ∷ 2 ∷ 0 ∷ 0 ∷ 0 ∷ 0xc ∷ 0 ∷ 0 ∷ 0 ∷ 0 ∷ 0 ∷ 0 ∷ 0 ∷ 6 ∷ 0 ∷ 0 ∷ 0 ∷ 0x41 ∷ 0x37 ∷ []

abbrev pub counted_from_the_first_item : List ℕ
counted_from_the_first_item = 2 ∷ 0 ∷ 0 ∷ 0 ∷ 4 ∷ 0 ∷ 0 ∷ 0 ∷ 2 ∷ 0 ∷ 0 ∷ 0 ∷ 0xc ∷ 0 ∷ 0 ∷ 0 ∷ 0 ∷ 0 ∷ 0 ∷ 0 ∷ 0xe ∷ 0 ∷ 0 ∷ 0 ∷ 0x41 ∷ 0x37 ∷ []

-- a pointer to the two-byte number 0x1234; the builder after one byte FF, over so many bytes
abbrev pub pointer_to_1234 : List ℕ
pointer_to_1234 = 0x52 ∷ 0x50 ∷ 0x4e ∷ 0x32 ∷ 0x34 ∷ 0x12 ∷ []

abbrev pub one_pushed : ℕ → After (Answer ℕ)
one_pushed n = step (push_bytes (0xff ∷ []) 1) (opened n) (zeros n)

abbrev pub pointer_built : ℕ → After (Answer ℕ)
pointer_built n = step (build (pointer (number_kind 2 little) little) pointer_to_1234) (one_pushed n).builder (one_pushed n).buffer

-- the text a, e acute, e acute, as an inline text
abbrev pub a_acute_acute : List ℕ
a_acute_acute = 0x54 ∷ 0x49 ∷ 5 ∷ 0 ∷ 0 ∷ 0 ∷ 0x61 ∷ 0xc3 ∷ 0xa9 ∷ 0xc3 ∷ 0xa9 ∷ []

abbrev pub inline_head : ℕ → List ℕ
inline_head c = ((inline_kind c little).lay a_acute_acute 0 8).head

abbrev pub numbers : Meaning
numbers = slice (number_kind 2 little) little

-- a slice of one two-byte number, with a distance and so many bytes more
abbrev pub one_number : ℕ → ℕ → List ℕ
one_number distance n = 1 ∷ 0 ∷ 0 ∷ 0 ∷ distance ∷ 0 ∷ 0 ∷ 0 ∷ 0x34 ∷ 0x12 ∷ zeros n

-- a pointer at 4 that leads back to 0
abbrev pub leading_back : List ℕ
leading_back = 7 ∷ 0 ∷ 0 ∷ 0 ∷ 0xfc ∷ 0xff ∷ 0xff ∷ 0xff ∷ []

abbrev pub back_pointer : Meaning
back_pointer = pointer (number_kind 1 little) little

-- a life over so many bytes: one byte, two calls that are refused, a pointer, and two writes, one of them refused and neither over the pointer's record
abbrev pub born : List ℕ → Stage
born buf = record { builder = opened (length buf); buffer = buf }

abbrev pub earlier : List Event
earlier = own (push_bytes (0xff ∷ []) 1) ∷ own (align 3) ∷ other (zeros 9) (push_bytes (0xff ∷ []) 1) ∷ []

abbrev pub later : List Event
later = own (write 9 (1 ∷ 2 ∷ [])) ∷ own (write 0 (7 ∷ [])) ∷ []

abbrev pub pointer_event : Event
pointer_event = own (build (pointer (number_kind 2 little) little) pointer_to_1234)

abbrev pub a_life : List Event
a_life = earlier ++ (pointer_event ∷ later)

abbrev pub ten_and_four : Finished
ten_and_four = record { length = 10; alignment = 4 }

-- nine bytes more than it needs, none of them zero
abbrev pub wide : List ℕ
wide = replicate 19 0xee

pub record Worked : Type 0 where
  pub two_texts_built_little :
      step (build (slice (text_kind little) little) two_texts) (opened 26) (zeros 26) ≡ record { answer = good 0; builder = record { used = 26; align = 4; room = 26 }; buffer = two_texts_little }
  pub two_texts_built_big :
      step (build (slice (text_kind big) big) two_texts) (opened 26) (zeros 26) ≡ record { answer = good 0; builder = record { used = 26; align = 4; room = 26 }; buffer = two_texts_big }
  pub two_texts_read_little : sheet_at (slice (text_kind little) little) two_texts_little 0 ≡ good two_texts
  pub two_texts_read_big : sheet_at (slice (text_kind big) big) two_texts_big 0 ≡ good two_texts
  pub wrong_mark_of_an_item : (slice (text_kind little) little).scan (0x53 ∷ 0x4c ∷ 1 ∷ 0 ∷ 0 ∷ 0 ∷ 0x54 ∷ 0x59 ∷ []) ≡ bad (record { number = 11; place = 6; depth = 1 })
  pub pointer_behind_one_byte :
      pointer_built 10 ≡ record { answer = good 4; builder = record { used = 10; align = 4; room = 10 }; buffer = 0xff ∷ 0 ∷ 0 ∷ 0 ∷ 4 ∷ 0 ∷ 0 ∷ 0 ∷ 0x34 ∷ 0x12 ∷ [] }
  pub pointer_without_room : pointer_built 9 ≡ record { answer = fault 4 0; builder = record { used = 1; align = 1; room = 9 }; buffer = 0xff ∷ zeros 8 }
  pub inline_of_two : inline_head 2 ≡ 1 ∷ 0 ∷ 0 ∷ 0 ∷ 0x61 ∷ 0 ∷ 0 ∷ 0 ∷ []
  pub inline_of_four : inline_head 4 ≡ 3 ∷ 0 ∷ 0 ∷ 0 ∷ 0x61 ∷ 0xc3 ∷ 0xa9 ∷ 0 ∷ []
  pub one_number_found : get numbers (slice_step (number_kind 2 little) little) (one_number 4 0) 0 ≡ good (found_items (record { place = 8; count = 1 }))
  pub one_number_deep : is_valid_deep numbers (one_number 4 0) 0 ≡ good 0
  pub target_past_the_end : is_valid_deep numbers (one_number 5 0) 0 ≡ fault 21 4
  pub target_not_aligned : is_valid_deep numbers (one_number 5 2) 0 ≡ fault 22 4
  pub pointer_leading_back : get back_pointer (pointer_step (number_kind 1 little) little) leading_back 4 ≡ good (found_target 0)
  pub pointer_back_read : sheet_at back_pointer leading_back 4 ≡ good (0x52 ∷ 0x50 ∷ 0x4e ∷ 0x31 ∷ 7 ∷ [])
  pub life_answered : answers (born (zeros 10)) a_life ≡ good 0 ∷ fault 3 0 ∷ fault 2 0 ∷ good 4 ∷ fault 5 0 ∷ good 0 ∷ []
  pub life_finished : finish (lived (born (zeros 10)) a_life).builder ≡ ten_and_four
  pub life_left : archive_left (born (zeros 10)) a_life ten_and_four ≡ 7 ∷ 0 ∷ 0 ∷ 0 ∷ 4 ∷ 0 ∷ 0 ∷ 0 ∷ 0x34 ∷ 0x12 ∷ []
  pub life_again : answers (born wide) (accepted (born (zeros 10)) a_life) ≡ good 0 ∷ good 4 ∷ good 0 ∷ []
  -- what the theorem on lives asks is met: it is a life, and no accepted write falls upon the record at 4 to 10
  pub life_lawful : Life 10 a_life
  pub life_spared : Spared 4 10 (after pointer_event (lived (born (zeros 10)) earlier)) later
  -- the believable mistakes: neither built nor read as that
  pub not_from_the_count : (step (build (slice (text_kind little) little) two_texts) (opened 26) (zeros 26)).buffer ≡ counted_from_the_count → ⊥
  pub not_read_from_the_count : sheet_at (slice (text_kind little) little) counted_from_the_count 0 ≡ good two_texts → ⊥
  pub not_from_the_first_item : (step (build (slice (text_kind little) little) two_texts) (opened 26) (zeros 26)).buffer ≡ counted_from_the_first_item → ⊥
  pub not_cut_inside_a_character : inline_head 2 ≡ 2 ∷ 0 ∷ 0 ∷ 0 ∷ 0x61 ∷ 0xc3 ∷ 0 ∷ 0 ∷ [] → ⊥
