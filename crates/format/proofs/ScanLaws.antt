-- What is written into a sheet is scanned to its end, and read back. Assumes nothing.
use Rattle.std.proofs.Common.{◌≡◌, ℕ, ◌+◌, ◌^◌, ◌<◌, ◌≤◌, true, leb, List, ◌++◌, length, get_or, take, drop, refl, ap, ◌∙◌, append_assoc, arith}
use Rattle.std.proofs.lemmas.List.{length-append, get_or_append_left, take_at, drop_at}
use Rattle.std.proofs.lemmas.Bool.{le-leb}
use Rattle.format.specs.Orders.{low_first, number}
use Rattle.format.specs.Recogniser.{is_text}
use Rattle.format.specs.Answers.{good, fault, unless}
use Rattle.format.specs.Sheets.{marked, number_of, text_of, text_behind, scan_text, number_sheet, text_sheet}
use Rattle.format.proofs.AnswerLaws.{unless-true, both-good}
use Rattle.format.proofs.OrderLaws.{length-low_first, number-low_first}
use Rattle.format.proofs.SheetLaws.{marked-good}

regroup : (a b c d : List ℕ) → (a ++ (b ++ c)) ++ d ≡ (a ++ b) ++ (c ++ d)
regroup a b c d = simp append_assoc

module _ (mark : List ℕ) (two : length mark ≡ 2) where
  -- a number, with any bytes behind it
  module _ (w n : ℕ) (rest : List ℕ) where
    abbrev v : List ℕ
    v = number_sheet mark w n ++ rest

    number-length : length (number_sheet mark w n) ≡ 2 + w
    number-length = length-append mark (low_first w n) ∙ (ap (λ k. k + length (low_first w n)) two ∙ ap (λ k. 2 + k) (length-low_first w n))

    in_mark : (k : ℕ) → k < 2 → get_or v k 0 ≡ get_or mark k 0
    in_mark k h =
        let l = number-length in
        get_or_append_left (number_sheet mark w n) rest 0 k (omega arith) ∙ get_or_append_left mark (low_first w n) 0 k (omega arith)

    pub marked_written : marked mark w (number_sheet mark w n ++ rest) ≡ good (2 + w)
    marked_written =
        let l = length-append (number_sheet mark w n) rest in
        let k = number-length in
        marked-good mark w v (omega arith) two (in_mark 0 (omega arith)) (in_mark 1 (omega arith)) (omega arith)

    pub number_written : n < 256 ^ w → number_of w (number_sheet mark w n ++ rest) ≡ n
    number_written h =
        ap (λ bs. number (take w (drop 2 bs))) (append_assoc mark (low_first w n) rest) ∙
        (ap (λ bs. number (take w bs)) (drop_at mark (low_first w n ++ rest) 2 two) ∙
        (ap number (take_at (low_first w n) rest w (length-low_first w n)) ∙ number-low_first w n h))

  -- a text, with any bytes behind it
  module _ (bs rest : List ℕ) (small : length bs < 256 ^ 4) where
    abbrev u : List ℕ
    u = number_sheet mark 4 (length bs) ++ (bs ++ rest)

    same-sheet : text_sheet mark bs ++ rest ≡ u
    same-sheet = regroup mark (low_first 4 (length bs)) bs rest

    its_length : number_of 4 u ≡ length bs
    its_length = number_written 4 (length bs) (bs ++ rest) small

    its_bytes : text_of u ≡ bs
    its_bytes =
        ap (λ k. take k (drop 6 u)) its_length ∙
        (ap (take (length bs)) (drop_at (number_sheet mark 4 (length bs)) (bs ++ rest) 6 (number-length 4 (length bs) (bs ++ rest))) ∙ take_at bs rest (length bs) refl)

    pub text_written : text_of (text_sheet mark bs ++ rest) ≡ bs
    text_written = ap text_of same-sheet ∙ its_bytes

    pub scan_written : is_text bs ≡ true → scan_text mark (text_sheet mark bs ++ rest) ≡ good (6 + length bs)
    scan_written t =
        let fits : 6 + length bs ≤ length u =
        let l = length-append (number_sheet mark 4 (length bs)) (bs ++ rest) in let k = number-length 4 (length bs) (bs ++ rest) in let m = length-append bs rest in omega arith in
        ap (scan_text mark) same-sheet ∙
        (both-good (marked mark 4 u) 6 (text_behind u) (marked_written 4 (length bs) (bs ++ rest)) ∙
        (ap (λ k. unless (leb (6 + k) (length u)) (fault 12 0) (unless (is_text (text_of u)) (fault 13 0) (good (6 + k)))) its_length ∙
        (unless-true (leb (6 + length bs) (length u)) _ _ (le-leb (6 + length bs) (length u) fits) ∙ unless-true (is_text (text_of u)) _ _ (ap is_text its_bytes ∙ t))))
