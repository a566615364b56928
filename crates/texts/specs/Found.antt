-- A text that a scan found in a sheet. Assumes nothing.
use Rattle.std.specs.Prelude.{◌≡◌, ℕ, List, drop}
use Rattle.format.specs.Answers.{good}
use Rattle.format.specs.Sheets.{at_place, scan_text, text_of}
use Rattle.format.specs.Items.{first_of}

-- some text stands at p in a sheet
pub record Stands (s : List ℕ) (p : ℕ) : Type 0 where
  pub mark : List ℕ
  pub next : ℕ
  pub found : at_place (scan_text mark) s p ≡ good next

-- the text at p in a sheet, behind this mark, is bs, and the next value begins at q
pub record Found (mark s : List ℕ) (p q : ℕ) (bs : List ℕ) : Type 0 where
  pub next : at_place (scan_text mark) s p ≡ good q
  pub text : text_of (first_of (scan_text mark (drop p s)) (drop p s)) ≡ bs
