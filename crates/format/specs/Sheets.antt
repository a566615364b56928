-- The sheet, the flat form of a value: its marks, and the words that a sheet is read by. Assumes nothing.
use Rattle.std.specs.Prelude.{ℕ, ◌+◌, Bool, true, false, ◌&&◌, List, [], ◌∷◌, ◌++◌, length, take, drop, ◌==◌, nat_le, nat_lt}
use Rattle.std.proofs.Math.Utf8.{scalar}
use Rattle.format.specs.Places.{part}
use Rattle.format.specs.Orders.{low_first, number}
use Rattle.format.specs.Recogniser.{is_text}
use Rattle.format.specs.Answers.{Answer, good, fault, unless, both, shifted}

-- the marks: two ASCII letters that begin each value. N1, N2, N4 and N8
abbrev pub number_mark : ℕ → List ℕ
number_mark w = 0x4e ∷ (0x30 + w) ∷ []

-- BO
abbrev pub truth_mark : List ℕ
truth_mark = 0x42 ∷ 0x4f ∷ []

-- CH
abbrev pub character_mark : List ℕ
character_mark = 0x43 ∷ 0x48 ∷ []

-- TX
abbrev pub text_mark : List ℕ
text_mark = 0x54 ∷ 0x58 ∷ []

-- TI
abbrev pub inline_mark : List ℕ
inline_mark = 0x54 ∷ 0x49 ∷ []

-- RP
abbrev pub pointer_mark : List ℕ
pointer_mark = 0x52 ∷ 0x50 ∷ []

-- AN
abbrev pub array_mark : List ℕ
array_mark = 0x41 ∷ 0x4e ∷ []

-- AR
abbrev pub far_array_mark : List ℕ
far_array_mark = 0x41 ∷ 0x52 ∷ []

-- SL
abbrev pub slice_mark : List ℕ
slice_mark = 0x53 ∷ 0x4c ∷ []

abbrev pub same : List ℕ → List ℕ → Bool
same [] [] = true
same [] (b ∷ bs) = false
same (a ∷ rest) [] = false
same (a ∷ rest) (b ∷ bs) = a == b && same rest bs

-- where a mark with n bytes of its own ends, at the front of a sheet
abbrev pub marked : List ℕ → ℕ → List ℕ → Answer ℕ
marked mark n v = unless (nat_le 2 (length v)) (fault 12 0) (unless (same (take 2 v) mark) (fault 11 0) (unless (nat_le (2 + n) (length v)) (fault 12 0) (good (2 + n))))

-- the number of w bytes behind a mark
abbrev pub number_of : ℕ → List ℕ → ℕ
number_of w v = number (part 2 w v)

-- the text behind a mark and a length of four bytes
abbrev pub text_of : List ℕ → List ℕ
text_of v = part 6 (number_of 4 v) v

-- where a number of w bytes ends: 14 where it does not pass a test
abbrev pub scan_number : List ℕ → ℕ → (ℕ → Bool) → List ℕ → Answer ℕ
scan_number mark w valid v = both (marked mark w v) (λ e. unless (valid (number_of w v)) (fault 14 0) (good e))

-- where a text ends whose length ends at e: 13 where its bytes are none
abbrev pub text_behind : List ℕ → ℕ → Answer ℕ
text_behind v e = unless (nat_le (e + number_of 4 v) (length v)) (fault 12 0) (unless (is_text (text_of v)) (fault 13 0) (good (e + number_of 4 v)))

abbrev pub scan_text : List ℕ → List ℕ → Answer ℕ
scan_text mark v = both (marked mark 4 v) (text_behind v)

-- the sheet of a number, and of a text
abbrev pub number_sheet : List ℕ → ℕ → ℕ → List ℕ
number_sheet mark w n = mark ++ low_first w n

abbrev pub text_sheet : List ℕ → List ℕ → List ℕ
text_sheet mark bs = mark ++ (low_first 4 (length bs) ++ bs)

-- what a scan answers of the value at p in a sheet, by places of that sheet
abbrev pub at_place : (List ℕ → Answer ℕ) → List ℕ → ℕ → Answer ℕ
at_place scan s p = shifted p (both (scan (drop p s)) (λ e. good (p + e)))

-- the number, and the text, that is read behind a mark at p in a sheet
abbrev pub number_read : List ℕ → ℕ → (ℕ → Bool) → List ℕ → ℕ → Answer ℕ
number_read mark w valid s p = both (at_place (scan_number mark w valid) s p) (λ _. good (number_of w (drop p s)))

abbrev pub text_read : List ℕ → List ℕ → ℕ → Answer (List ℕ)
text_read mark s p = both (at_place (scan_text mark) s p) (λ _. good (text_of (drop p s)))

-- what may be asked of a number: nothing, that it is a truth, that it is a character
abbrev pub any : ℕ → Bool
any n = true

abbrev pub is_truth : ℕ → Bool
is_truth n = nat_lt n 2

abbrev pub is_character : ℕ → Bool
is_character = scalar

-- the forms that a value in a sheet can have. Arrays are told how many values they hold; the others' sheets say it
pub data Form : Type 0 where
  number_form : ℕ → Form
  truth_form character_form text_form inline_form pointer_form slice_form : Form
  array_form far_array_form : ℕ → Form

-- where the first word of a value ends, which is all of it but the values that it holds
abbrev pub scan_word : Form → List ℕ → Answer ℕ
scan_word (number_form w) = scan_number (number_mark w) w any
scan_word truth_form = scan_number truth_mark 1 is_truth
scan_word character_form = scan_number character_mark 4 is_character
scan_word text_form = scan_text text_mark
scan_word inline_form = scan_text inline_mark
scan_word pointer_form = marked pointer_mark 0
scan_word (array_form n) = marked array_mark 0
scan_word (far_array_form n) = marked far_array_mark 0
scan_word slice_form = marked slice_mark 4

-- a word, as the sheet reader hands it out: a number, a text, or how many values follow, each with the place of its mark
pub data Word : Type 0 where
  number_word : (place value : ℕ) → Word
  text_word : (place : ℕ) (bytes : List ℕ) → Word
  count_word : (place count : ℕ) → Word

-- what the word at the front of a sheet says, which stands at p
abbrev pub said : Form → ℕ → List ℕ → Word
said (number_form w) p v = number_word p (number_of w v)
said truth_form p v = number_word p (number_of 1 v)
said character_form p v = number_word p (number_of 4 v)
said text_form p v = text_word p (text_of v)
said inline_form p v = text_word p (text_of v)
said pointer_form p v = count_word p 1
said (array_form n) p v = count_word p n
said (far_array_form n) p v = count_word p n
said slice_form p v = count_word p (number_of 4 v)

-- the word at p in a sheet, and where it ends
pub record Read : Type 0 where
  pub word : Word
  pub end : ℕ

-- the word of a value at p, by a scan and by what the value's front says
abbrev pub heard : (List ℕ → Answer ℕ) → (List ℕ → Word) → List ℕ → ℕ → Answer Read
heard scan word s p = both (at_place scan s p) (λ e. good (record { word = word (drop p s); end = e }))

abbrev pub read_at : Form → List ℕ → ℕ → Answer Read
read_at f s p = heard (scan_word f) (said f p) s p

-- a sheet that is read up to p: 15 where bytes are behind
abbrev pub ended : List ℕ → ℕ → Answer ℕ
ended s p = unless (nat_le (length s) p) (fault 15 p) (good p)
