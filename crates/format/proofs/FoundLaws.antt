-- A number that is found in a sheet, and the sheet of a number that is put into a buffer. Assumes nothing.
use Rattle.std.proofs.Common.{◌≡◌, ℕ, ◌+◌, ◌≤◌, Bool, List, length, take, drop, sym, ap, ◌∙◌, arith, length-drop}
use Rattle.std.proofs.lemmas.List.{drop-take, take-take, length-append}
use Rattle.format.specs.Places.{part, put}
use Rattle.format.specs.Orders.{number, low_first}
use Rattle.format.specs.Answers.{good}
use Rattle.format.specs.Sheets.{at_place, scan_number, number_of, number_sheet}
use Rattle.format.specs.Items.{first_of}
use Rattle.format.proofs.AnswerLaws.{at_place-end}
use Rattle.format.proofs.OrderLaws.{length-low_first}
use Rattle.format.proofs.PutLaws.{put-put}
use Rattle.format.proofs.SheetLaws.{scan_number-end, number_of_is}

pub record Found (mark : List ℕ) (w : ℕ) (valid : ℕ → Bool) (s : List ℕ) (p q : ℕ) : Type 0 where
  pub next : q ≡ p + (2 + w)
  pub within : p + (2 + w) ≤ length s
  pub value : number_of w (first_of (scan_number mark w valid (drop p s)) (drop p s)) ≡ number (part (p + 2) w s)

pub found : (mark : List ℕ) (w : ℕ) (valid : ℕ → Bool) (s : List ℕ) (p q : ℕ) → at_place (scan_number mark w valid) s p ≡ good q → Found mark w valid s p q
found mark w valid s p q h =
    let r = at_place-end (scan_number mark w valid) s p q h in
    let ends = scan_number-end mark (drop p s) r.0 w valid r.1.0 in
    let l = length-drop p s in
    let v : first_of (scan_number mark w valid (drop p s)) (drop p s) ≡ take (2 + w) (drop p s) = ap (λ z. first_of z (drop p s)) (r.1.0 ∙ ap good ends.0) in
    record {
      next = r.1.1 ∙ ap (λ z. p + z) ends.0;
      within = omega (arith, ends.1);
      value = ap (number_of w) v ∙ (ap (λ z. number (take w z)) (drop-take 2 w (drop p s)) ∙ (ap number (take-take w w (drop 2 (drop p s)) (omega arith)) ∙ number_of_is mark w s p));
    }

-- how long the sheet of a number is
pub sheet-length : (mark : List ℕ) (w n : ℕ) → length mark ≡ 2 → length (number_sheet mark w n) ≡ 2 + w
sheet-length mark w n h = let k = length-append mark (low_first w n) in let l = length-low_first w n in omega arith

-- a mark, and right behind it a number
pub copied :
    (mark m out mid new : List ℕ) (to w n : ℕ) (s : List ℕ) → m ≡ mark → length mark ≡ 2 → mid ≡ put out to m → new ≡ put mid (to + 2) (low_first w n) → s ≡ number_sheet mark w n → to ≤ length out →
    (new ≡ put out to s) × (to + 2 + w ≡ to + length s)
copied mark m out mid new to w n s e two f h k room =
    let two' : to + 2 ≡ to + length mark = omega arith in
    let both-put : put (put out to mark) (to + 2) (low_first w n) ≡ put out to (number_sheet mark w n) = put-put out to mark (low_first w n) (to + 2) room two' in
    let l = sheet-length mark w n two in
    let ls : length s ≡ 2 + w = ap length k ∙ l in
    (h ∙ (ap (λ z. put z (to + 2) (low_first w n)) (f ∙ ap (put out to) e) ∙ (both-put ∙ ap (put out to) (sym k))), omega arith)
