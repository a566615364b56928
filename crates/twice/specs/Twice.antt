-- A kind that the library does not know: a byte that is stored twice, and refused where the two differ. Assumes nothing.
use Rattle.std.specs.Prelude.{ℕ, ◌+◌, List, [], ◌∷◌, ◌==◌, slice_index}
use Rattle.format.specs.Answers.{Answer, good, fault, unless, both}
use Rattle.format.specs.Sheets.{scan_number, number_of, number_sheet, any}
use Rattle.format.specs.Meaning.{Meaning}

-- T2
abbrev pub twice_mark : List ℕ
twice_mark = 0x54 ∷ 0x32 ∷ []

abbrev pub byte_at : List ℕ → ℕ → Answer ℕ
byte_at a p = unless (slice_index a p == slice_index a (p + 1)) (fault 24 p) (good (slice_index a p))

abbrev pub twice : Meaning
twice = record {
  size = 2;
  align = 1;
  scan = scan_number twice_mark 1 any;
  kept = λ v. v;
  lay = λ v h t. record { head = number_of 1 v ∷ number_of 1 v ∷ []; tail = []; end = t; widest = 1 };
  shallow = λ a p. both (byte_at a p) (λ _. good p);
  reading = λ a p. both (byte_at a p) (λ n. good (number_sheet twice_mark 1 n));
}
