-- What a good answer says of the front of a sheet, and which fronts are answered so. Assumes nothing.
use Rattle.std.proofs.Common.{◌≡◌, ℕ, ◌+◌, ◌^◌, ◌<◌, ◌≤◌, Bool, true, leb, List, ◌++◌, length, take, drop, sym, ap, ◌∙◌, subst, ap₂, append_assoc, arith}
use Rattle.std.proofs.lemmas.List.{length-append, length-take-le, length-drop, take_all, take-append-drop, take_at, drop_at, drop-drop}
use Rattle.std.proofs.lemmas.Bool.{le-leb}
use Rattle.format.specs.Places.{Bytes, part}
use Rattle.format.specs.Orders.{low_first, number}
use Rattle.format.specs.Recogniser.{is_text}
use Rattle.format.specs.Answers.{good}
use Rattle.format.specs.Sheets.{marked, number_of, text_of, scan_number, scan_text, text_behind, number_sheet, text_sheet}
use Rattle.format.proofs.ByteLists.{bytes-part, length_part}
use Rattle.format.proofs.OrderLaws.{number-low_first, number_lt, low_first-number}
use Rattle.format.proofs.AnswerLaws.{unless-true, both-good, both_parts}
use Rattle.format.proofs.SheetLaws.{marked_front, marked_from, scan_number-end, scan_text-end}
use Rattle.format.proofs.PlaceLaws.{split_holds, part-longer}

-- parts of a front do not depend on what follows it
pub part_front : (v t : List ℕ) (e p n : ℕ) → p + n ≤ e → e ≤ length v → part p n (take e v ++ t) ≡ part p n v
part_front v t e p n h l =
    let k = length-take-le e v l in
    part-longer (take e v) t p n (omega arith) ∙ (sym (part-longer (take e v) (drop e v) p n (omega arith)) ∙ ap (part p n) (take-append-drop e v))

-- the number of w bytes behind a mark
module _ (v : List ℕ) (w : ℕ) where
  pub number_of_lt : Bytes v → 2 + w ≤ length v → number_of w v < 256 ^ w
  number_of_lt b l = subst (λ z. number_of w v < 256 ^ z) (length_part 2 w v l) (number_lt (part 2 w v) (bytes-part 2 w v b))

  pub low_first-number_of : Bytes v → 2 + w ≤ length v → low_first w (number_of w v) ≡ part 2 w v
  low_first-number_of b l = subst (λ z. low_first z (number_of w v) ≡ part 2 w v) (length_part 2 w v l) (low_first-number (part 2 w v) (bytes-part 2 w v b))

-- a whole sheet of a number is the sheet of its number
pub number_sheet_is : (mark v : List ℕ) (w : ℕ) → take 2 v ≡ mark → Bytes v → length v ≡ 2 + w → number_sheet mark w (number_of w v) ≡ v
number_sheet_is mark v w m b l =
    let k = length-drop 2 v in
    ap₂ ◌++◌ (sym m) (low_first-number_of v w b (omega arith) ∙ take_all w (drop 2 v) (omega arith)) ∙ take-append-drop 2 v

-- the front that a number's scan answers
module _ (mark : List ℕ) (w : ℕ) (valid : ℕ → Bool) (v : List ℕ) where
  pub scan_number-mark : (e : ℕ) → scan_number mark w valid v ≡ good e → take 2 v ≡ mark
  scan_number-mark e h = let k = both_parts (marked mark w v) _ e h in marked_front mark w v k.0 k.1.0

  pub scan_number-good : take 2 v ≡ mark → 2 + w ≤ length v → valid (number_of w v) ≡ true → scan_number mark w valid v ≡ good (2 + w)
  scan_number-good m l t = both-good (marked mark w v) (2 + w) _ (marked_from mark w v m l) ∙ unless-true (valid (number_of w v)) _ _ t

-- a number ends alike whatever follows
pub scan_number-ends : (mark : List ℕ) (w : ℕ) (valid : ℕ → Bool) (v : List ℕ) (e : ℕ) → scan_number mark w valid v ≡ good e → (e ≤ length v) × ((t : List ℕ) → scan_number mark w valid (take e v ++ t) ≡ good e)
scan_number-ends mark w valid v e h =
    let k = scan_number-end mark v e w valid h in
    let l : 2 + w ≤ length v = k.1 in
    subst (λ z. (z ≤ length v) × ((t : List ℕ) → scan_number mark w valid (take z v ++ t) ≡ good z)) (sym k.0) (
      l,
      λ t.
          let c = length-append (take (2 + w) v) t in
          let d = length-take-le (2 + w) v l in
          scan_number-good mark w valid (take (2 + w) v ++ t) (part_front v t (2 + w) 0 2 (omega arith) l ∙ scan_number-mark mark w valid v e h) (omega arith)
          (ap (λ z. valid (number z)) (part_front v t (2 + w) 2 w (omega arith) l) ∙ k.2),
    )

-- the front that a text's scan answers
module _ (mark v : List ℕ) where
  pub scan_text-mark : (e : ℕ) → scan_text mark v ≡ good e → take 2 v ≡ mark
  scan_text-mark e h = let k = both_parts (marked mark 4 v) (text_behind v) e h in marked_front mark 4 v k.0 k.1.0

  pub scan_text-good : take 2 v ≡ mark → 6 + number_of 4 v ≤ length v → is_text (text_of v) ≡ true → scan_text mark v ≡ good (6 + number_of 4 v)
  scan_text-good m l t =
      both-good (marked mark 4 v) 6 (text_behind v) (marked_from mark 4 v m (omega arith)) ∙
      (unless-true (leb (6 + number_of 4 v) (length v)) _ _ (le-leb (6 + number_of 4 v) (length v) l) ∙ unless-true (is_text (text_of v)) _ _ t)

-- a text ends alike whatever follows
pub scan_text-ends : (mark v : List ℕ) (e : ℕ) → scan_text mark v ≡ good e → (e ≤ length v) × ((t : List ℕ) → scan_text mark (take e v ++ t) ≡ good e)
scan_text-ends mark v e h =
    let n = number_of 4 v in
    let k = scan_text-end mark v e h in
    let l : 6 + n ≤ length v = k.1 in
    subst (λ z. (z ≤ length v) × ((t : List ℕ) → scan_text mark (take z v ++ t) ≡ good z)) (sym k.0) (
      l,
      λ t.
          let u = take (6 + n) v ++ t in
          let c = length-append (take (6 + n) v) t in
          let d = length-take-le (6 + n) v l in
          let m : number_of 4 u ≡ n = ap number (part_front v t (6 + n) 2 4 (omega arith) l) in
          let same_text : text_of u ≡ text_of v = ap (λ z. part 6 z u) m ∙ part_front v t (6 + n) 6 n (omega arith) l in
          scan_text-good mark u (part_front v t (6 + n) 0 2 (omega arith) l ∙ scan_text-mark mark v e h) (omega arith) (ap is_text same_text ∙ k.2) ∙ ap (λ z. good (6 + z)) m,
    )

-- what the whole sheet of a text says
pub record TextSheet (mark v : List ℕ) : Type 0 where
  pub small : length (text_of v) < 4294967296
  pub bytes : Bytes (text_of v)
  pub text : is_text (text_of v) ≡ true
  pub sheet : text_sheet mark (text_of v) ≡ v

pub text_sheet_is : (mark v : List ℕ) → Bytes v → scan_text mark v ≡ good (length v) → TextSheet mark v
text_sheet_is mark v b h =
    let n = number_of 4 v in
    let k = scan_text-end mark v (length v) h in
    let l : length v ≡ 6 + n = k.0 in
    let c : length (text_of v) ≡ n = length_part 6 n v (omega arith) in
    let d = length-drop 6 v in
    let s = number_of_lt v 4 b (omega arith) in
    record {
      small = omega arith;
      bytes = bytes-part 6 n v b;
      text = k.2;
      sheet =
          ap₂ ◌++◌ (sym (scan_text-mark mark v (length v) h)) (ap₂ ◌++◌ (ap (low_first 4) c ∙ low_first-number_of v 4 b (omega arith)) (take_all n (drop 6 v) (omega arith) ∙ sym (drop-drop 4 2 v)) ∙ take-append-drop 4 (drop 2 v)) ∙
          take-append-drop 2 v;
    }

-- the sheet that is made of a text
module _ (mark bs : List ℕ) (m : length mark ≡ 2) (small : length bs < 4294967296) where
  number_of-sheet : number_of 4 (text_sheet mark bs) ≡ length bs
  number_of-sheet = ap number (split_holds mark (low_first 4 (length bs)) bs 2 m).same ∙ number-low_first 4 (length bs) small

  pub text_of-sheet : text_of (text_sheet mark bs) ≡ bs
  text_of-sheet =
      let l = length-append mark (low_first 4 (length bs)) in
      ap (λ z. part 6 z (text_sheet mark bs)) number_of-sheet ∙
      (ap (part 6 (length bs)) (sym (append_assoc mark (low_first 4 (length bs)) bs)) ∙
      (ap (take (length bs)) (drop_at (mark ++ low_first 4 (length bs)) bs 6 (omega arith)) ∙ take_all (length bs) bs (omega arith)))

  pub scan_text-sheet : is_text bs ≡ true → scan_text mark (text_sheet mark bs) ≡ good (length (text_sheet mark bs))
  scan_text-sheet t =
      let v = text_sheet mark bs in
      let l = length-append mark (low_first 4 (length bs) ++ bs) in
      let n = number_of-sheet in
      let e : 6 + number_of 4 v ≡ length v = omega arith in
      scan_text-good mark v (take_at mark _ 2 m) (omega arith) (ap is_text text_of-sheet ∙ t) ∙ ap good e
