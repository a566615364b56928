-- A sheet that is written within the limit, piece after piece. Assumes nothing.
use Rattle.std.proofs.Common.{◌≡◌, ℕ, ◌+◌, ◌<◌, ◌≤◌, Bool, true, false, leb, List, [], ◌∷◌, ◌++◌, map, length, drop, sym, refl, ap, ◌∙◌, arith}
use Rattle.std.specs.List.{flat_map}
use Rattle.std.proofs.lemmas.List.{length-append, length-map}
use Rattle.std.proofs.lemmas.Bool.{leb-false, lt-leb}
use Rattle.format.specs.Places.{limit}
use Rattle.format.specs.Orders.{low_first}
use Rattle.format.specs.Answers.{Fault, good, bad, unless}
use Rattle.format.specs.Sheets.{slice_mark, number_sheet}
use Rattle.format.proofs.AnswerLaws.{unless-false}
use Rattle.plate_lists.specs.Lists.{slice_sheet, limited, counted}

-- which way a test went, by the answer
bad_by : {A : Type 0} (t : Bool) (e f : Fault) (y : A) → bad f ≡ unless t (bad e) (good y) → (t ≡ false) × (f ≡ e)
bad_by true e f y h = let z : ◌≡◌ {A = ℕ} 0 1 = cc in absurd (omega arith)
bad_by false e f y h = let z : f ≡ e = cc in (refl, z)

-- bytes past the limit
over : (f : Fault) (bs : List ℕ) → f ≡ record { number = 1; place = 0; depth = 0 } → limit < length bs → bad f ≡ limited bs
over f bs e h = ap bad e ∙ sym (unless-false (leb (length bs) limit) _ _ (lt-leb (length bs) limit h))

-- a sheet so far, which leaves the whole to the rest
pub record Written (whole sheet rest : List ℕ) : Type 0 where
  pub left : sheet ++ rest ≡ whole
  pub room : length sheet ≤ limit

-- a mark, the count of what follows, and what follows: a byte at least for each that is counted
module _ (start mark : List ℕ) (n : ℕ) (row : List ℕ) (two : length mark ≡ 2) (many : n ≤ length row) where
  abbrev all : List ℕ
  all = start ++ (number_sheet mark 4 n ++ row)

  long : length all ≡ length start + (6 + length row)
  long =
      let a = length-append start (number_sheet mark 4 n ++ row) in
      let b = length-append (number_sheet mark 4 n) row in
      let c = length-append mark (low_first 4 n) in
      omega arith

  pub counted_over : (f : Fault) → bad f ≡ counted start mark n → bad f ≡ limited all
  counted_over f e =
      let p = bad_by (leb (length start + (6 + n)) limit) _ f (start ++ number_sheet mark 4 n) e in
      let l = leb-false (length start + (6 + n)) limit p.0 in
      over f all p.1 (omega (arith, long))

pub length_joined : {X : Type 0} (f : X → List ℕ) → ((x : X) → 0 < length (f x)) → (xs : List X) → length xs ≤ length (flat_map f xs)
length_joined f some [] = omega arith
length_joined f some (x ∷ xs) = let h = length_joined f some xs in let k = length-append (f x) (flat_map f xs) in let l = some x in omega arith

joined_map : {X Y : Type 0} (g : Y → List ℕ) (h : X → Y) (xs : List X) → flat_map (λ x. g (h x)) xs ≡ flat_map g (map h xs)
joined_map g h [] = refl
joined_map g h (x ∷ xs) = ap (λ bs. g (h x) ++ bs) (joined_map g h xs)

-- the sheet of a slice of values, which h reads from the items xs
pub slice_read : {X Y : Type 0} (g : Y → List ℕ) (h : X → Y) (xs : List X) → slice_sheet (λ x. g (h x)) xs ≡ slice_sheet g (map h xs)
slice_read g h xs = ap (λ bs. number_sheet slice_mark 4 (length xs) ++ bs) (joined_map g h xs) ∙ ap (λ n. number_sheet slice_mark 4 n ++ flat_map g (map h xs)) (sym (length-map xs h))

-- the sheet of a slice of values xs: behind start come mark and count, which leave s, then the values in a row
module _ {X : Type 0} (g : X → List ℕ) (some : (x : X) → 0 < length (g x)) (xs : List X) where
  -- the sheet with the first i of them
  abbrev pub RowWritten : List ℕ → List ℕ → ℕ → Type 0
  RowWritten s sheet i = Written (s ++ flat_map g xs) sheet (flat_map g (drop i xs))

  module _ (start : List ℕ) where
    abbrev slice : List ℕ
    slice = start ++ slice_sheet g xs

    many : length xs ≤ length (flat_map g xs)
    many = length_joined g some xs

    pub slice_over : (f : Fault) → bad f ≡ counted start slice_mark (length xs) → bad f ≡ limited slice
    slice_over = counted_over start slice_mark (length xs) (flat_map g xs) refl many
