-- What was made from texts is read back as these texts, each at its place. Assumes nothing.
use Rattle.std.proofs.Common.{◌≡◌, ℕ, ◌+◌, ◌*◌, ◌≤◌, true, leb, List, [], ◌∷◌, ◌++◌, length, drop, sym, refl, ap, ◌∙◌, add-zero, arith}
use Rattle.std.proofs.lemmas.List.{drop-drop, drop_at, length-append}
use Rattle.std.proofs.lemmas.Bool.{le-leb}
use Rattle.format.specs.Places.{limit}
use Rattle.format.specs.Recogniser.{is_text}
use Rattle.format.specs.Answers.{good, both, inside}
use Rattle.format.specs.Sheets.{slice_mark, text_mark, text_sheet, number_of, marked, scan_text, text_of, text_word, count_word, at_place, read_at, slice_form, text_form, ended}
use Rattle.format.proofs.AnswerLaws.{unless-true, both-good, at_place-good}
use Rattle.format.proofs.ScanLaws.{marked_written, number_written, text_written, scan_written}
use Rattle.plate_lists.specs.Lists.{texts_row, texts_at, words_from, AllText, ReadsBack}

-- a text takes six bytes at least
length-row : (ls : List (List ℕ)) → 6 * length ls ≤ length (texts_row ls)
length-row [] = omega arith
length-row (l ∷ ls) = let h = length-row ls in let k = length-append l (texts_row ls) in omega arith

-- the text l at p, and what follows it
module _ (s : List ℕ) (p : ℕ) (l row : List ℕ) (front : drop p s ≡ text_sheet text_mark l ++ row) where
  text-there : is_text l ≡ true → length l ≤ limit → read_at text_form s p ≡ good (record { word = text_word p l; end = p + (6 + length l) })
  text-there t h =
      both-good (at_place (scan_text text_mark) s p) (p + (6 + length l)) _ (at_place-good (scan_text text_mark) s p (6 + length l) (ap (scan_text text_mark) front ∙ scan_written text_mark refl l row (omega arith) t)) ∙
      ap (λ bs. good (record { word = text_word p bs; end = p + (6 + length l) })) (ap text_of front ∙ text_written text_mark refl l row (omega arith))

  row-there : drop (p + (6 + length l)) s ≡ row
  row-there = sym (drop-drop (6 + length l) p s) ∙ (ap (drop (6 + length l)) front ∙ drop_at (text_sheet text_mark l) row (6 + length l) (omega arith))

texts_there : (ls : List (List ℕ)) (s : List ℕ) (p : ℕ) → AllText ls → length (texts_row ls) ≤ limit → drop p s ≡ texts_row ls → texts_at (length ls) s p ≡ good (record { words = words_from p ls; end = p + length (texts_row ls) })
texts_there [] s p a h e = ap (λ k. good (record { words = []; end = k })) (sym (add-zero p))
texts_there (l ∷ ls) s p a h e =
    let row = texts_row ls in
    let q = p + (6 + length l) in
    let k = length-append l row in
    both-good (read_at text_form s p) _ _ (text-there s p l row e a.0 (omega arith)) ∙
    (both-good (texts_at (length ls) s q) _ _ (texts_there ls s q a.1 (omega arith) (row-there s p l row e)) ∙
    ap (λ n. good (record { words = text_word p l ∷ words_from q ls; end = n })) (omega arith))

pub reads_back : (s : List ℕ) → ReadsBack s
reads_back s ls a h e =
    let row = texts_row ls in
    let many = length-row ls in
    let slice-there : read_at slice_form s 0 ≡ good (record { word = count_word 0 (number_of 4 s); end = 6 }) =
    both-good (at_place (marked slice_mark 4) s 0) 6 _ (at_place-good (marked slice_mark 4) s 0 6 (ap (marked slice_mark 4) e ∙ marked_written slice_mark refl 4 (length ls) row)) in
    let count : number_of 4 s ≡ length ls = ap (number_of 4) e ∙ number_written slice_mark refl 4 (length ls) row (omega arith) in
    let texts : texts_at (number_of 4 s) s 6 ≡ good (record { words = words_from 6 ls; end = 6 + length row }) =
    ap (λ n. texts_at n s 6) count ∙ texts_there ls s 6 a (omega arith) (ap (drop 6) e) in
    let all : ended s (6 + length row) ≡ good (6 + length row) = unless-true (leb (length s) (6 + length row)) _ _ (le-leb (length s) (6 + length row) (omega (arith, ap length e))) in
    both-good (read_at slice_form s 0) _ _ slice-there ∙
    (ap (λ y. both (inside y) (λ t. both (ended s t.end) (λ _. good t.words))) texts ∙ both-good (ended s (6 + length row)) (6 + length row) (λ _. good (words_from 6 ls)) all)
