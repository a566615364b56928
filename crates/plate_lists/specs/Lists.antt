-- A plate list's pieces, the sheets of texts and of lists of texts, and the words that a sheet of texts is read back by. Assumes nothing.
use Rattle.std.specs.Prelude.{◌≡◌, ℕ, zero, suc, ◌+◌, ◌≤◌, true, cond, List, [], ◌∷◌, ◌++◌, length, ◌==◌, ◌≢◌, nat_le}
use Rattle.std.specs.List.{flat_map}
use Rattle.format.specs.Places.{limit}
use Rattle.format.specs.Orders.{Order}
use Rattle.format.specs.Recogniser.{is_text}
use Rattle.format.specs.Answers.{Answer, good, fault, both, unless, inside}
use Rattle.format.specs.Sheets.{slice_mark, text_mark, text_sheet, number_sheet, Word, number_word, text_word, count_word, read_at, slice_form, text_form, ended}
use Rattle.format.specs.Texts.{text_kind}
use Rattle.format.specs.Links.{slice}

-- b before the first piece
abbrev pub before : ℕ → List (List ℕ) → List (List ℕ)
before b [] = (b ∷ []) ∷ []
before b (l ∷ ls) = (b ∷ l) ∷ ls

-- bytes cut at a separator s
module _ (s : ℕ) where
  -- the pieces of bytes: each ends at a separator, the last also where the bytes end
  abbrev pub pieces : List ℕ → List (List ℕ)
  pieces [] = []
  pieces (b ∷ bs) = cond (b == s) ([] ∷ pieces bs) (before b (pieces bs))

  -- bytes without the separator that they may end with
  abbrev pub unended : List ℕ → List ℕ
  unended [] = []
  unended (b ∷ []) = cond (b == s) [] (b ∷ [])
  unended (b ∷ c ∷ bs) = b ∷ unended (c ∷ bs)

  -- bytes without a separator
  abbrev pub Unseparated : List ℕ → Type 0
  Unseparated [] = Unit {0}
  Unseparated (b ∷ bs) = (b ≢ s) × Unseparated bs

  abbrev pub AllUnseparated : List (List ℕ) → Type 0
  AllUnseparated [] = Unit {0}
  AllUnseparated (l ∷ ls) = Unseparated l × AllUnseparated ls

  -- bytes with a separator behind them, unless they are none or end with one
  abbrev pub closed : List ℕ → List ℕ
  closed [] = []
  closed (b ∷ []) = cond (b == s) (b ∷ []) (b ∷ s ∷ [])
  closed (b ∷ c ∷ bs) = b ∷ closed (c ∷ bs)

  -- ls are the pieces of bytes: no separator is in them, and one behind each gives the bytes back
  pub record ArePieces (bs : List ℕ) (ls : List (List ℕ)) : Type 0 where
    pub without : AllUnseparated ls
    pub rejoined : flat_map (λ l. l ++ s ∷ []) ls ≡ closed bs

-- the lines of a list, cut at line feeds
abbrev pub lines : List ℕ → List (List ℕ)
lines = pieces 10

-- ls are the lines of a list: no line feed is in them, and one behind each gives the list back
abbrev pub AreLines : List ℕ → List (List ℕ) → Type 0
AreLines = ArePieces 10

-- the fields of a line, cut at semicolons
abbrev pub fields : List ℕ → List (List ℕ)
fields = pieces 59

-- values as they stand in the sheet of a slice: behind its mark and their count, one behind the other
abbrev pub slice_sheet : {A : Type 0} → (A → List ℕ) → List A → List ℕ
slice_sheet sheet xs = number_sheet slice_mark 4 (length xs) ++ flat_map sheet xs

-- texts as they stand in a sheet, one behind the other
abbrev pub texts_row : List (List ℕ) → List ℕ
texts_row = flat_map (text_sheet text_mark)

-- the sheet of a slice of texts, and of a slice of such slices
abbrev pub texts_sheet : List (List ℕ) → List ℕ
texts_sheet = slice_sheet (text_sheet text_mark)

abbrev pub lists_sheet : List (List (List ℕ)) → List ℕ
lists_sheet = slice_sheet texts_sheet

-- bytes, if they are within the limit: else 1
abbrev pub limited : List ℕ → Answer (List ℕ)
limited bs = unless (nat_le (length bs) limit) (fault 1 0) (good bs)

-- the sheet of a slice of texts, if it is within the limit: else 1
abbrev pub sheet_of : List (List ℕ) → Answer (List ℕ)
sheet_of ls = limited (texts_sheet ls)

-- a sheet with a mark behind it, and the count of what follows: 1 where a byte for each would pass the limit
abbrev pub counted : List ℕ → List ℕ → ℕ → Answer (List ℕ)
counted s mark n = unless (nat_le (length s + (6 + n)) limit) (fault 1 0) (good (s ++ number_sheet mark 4 n))

-- texts in a row, as the words that they are read by, and where they end
pub record Texts : Type 0 where
  pub words : List Word
  pub end : ℕ

abbrev pub with_word : Word → Texts → Texts
with_word w t = record { words = w ∷ t.words; end = t.end }

-- n texts from a place on
abbrev pub texts_at : ℕ → List ℕ → ℕ → Answer Texts
texts_at zero s p = good (record { words = []; end = p })
texts_at (suc n) s p = both (read_at text_form s p) (λ r. both (texts_at n s r.end) (λ t. good (with_word r.word t)))

-- how many values follow a word
abbrev pub count_of : Word → ℕ
count_of (number_word p n) = 0
count_of (text_word p bs) = 0
count_of (count_word p n) = n

-- the words of the texts in the sheet of a slice of texts: what holds them is one level up
abbrev pub list_words : List ℕ → Answer (List Word)
list_words s = both (read_at slice_form s 0) (λ r. both (inside (texts_at (count_of r.word) s r.end)) (λ t. both (ended s t.end) (λ _. good t.words)))

-- the words of texts that stand in a row from p on
abbrev pub words_from : ℕ → List (List ℕ) → List Word
words_from p [] = []
words_from p (l ∷ ls) = text_word p l ∷ words_from (p + (6 + length l)) ls

abbrev pub AllText : List (List ℕ) → Type 0
AllText [] = Unit {0}
AllText (l ∷ ls) = (is_text l ≡ true) × AllText ls

-- what was made from texts is read back as these texts, each at its place
abbrev pub ReadsBack : List ℕ → Type 0
ReadsBack s = (ls : List (List ℕ)) → AllText ls → length (texts_sheet ls) ≤ limit → s ≡ texts_sheet ls → list_words s ≡ good (words_from 6 ls)

-- a sheet is accepted, and refused, as the kind "slice of text" scans it, in any byte order
abbrev pub ScansAsKind : List ℕ → Type 0
ScansAsKind s = (o : Order) → both (list_words s) (λ _. good (length s)) ≡ both ((slice (text_kind o) o).scan s) (ended s)
