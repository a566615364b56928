-- Numbers, truths and characters. Assumes nothing.
use Rattle.std.specs.Prelude.{ℕ, Bool, List, []}
use Rattle.format.specs.Places.{part}
use Rattle.format.specs.Orders.{Order}
use Rattle.format.specs.Answers.{Answer, good, fault, unless, both}
use Rattle.format.specs.Sheets.{number_mark, truth_mark, character_mark, scan_number, number_of, number_sheet, any, is_truth, is_character}
use Rattle.format.specs.Meaning.{Meaning}

-- the number of w bytes at p, if it passes a test: else 24
abbrev pub number_at : ℕ → (ℕ → Bool) → Order → List ℕ → ℕ → Answer ℕ
number_at w valid o a p = let n = o.take_back (part p w a) in unless (valid n) (fault 24 p) (good n)

abbrev pub scalar_kind : List ℕ → ℕ → (ℕ → Bool) → Order → Meaning
scalar_kind mark w valid o = record {
  size = w;
  align = w;
  scan = scan_number mark w valid;
  kept = λ v. v;
  lay = λ v h t. record { head = o.lay w (number_of w v); tail = []; end = t; widest = w };
  shallow = λ a p. both (number_at w valid o a p) (λ _. good p);
  reading = λ a p. both (number_at w valid o a p) (λ n. good (number_sheet mark w n));
}

abbrev pub number_kind : ℕ → Order → Meaning
number_kind w = scalar_kind (number_mark w) w any

abbrev pub truth_kind : Order → Meaning
truth_kind = scalar_kind truth_mark 1 is_truth

-- a character is a Unicode scalar value
abbrev pub character_kind : Order → Meaning
character_kind = scalar_kind character_mark 4 is_character
