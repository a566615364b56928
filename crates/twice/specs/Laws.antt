-- A byte that is stored twice keeps the laws of a kind. Assumes nothing.
use Rattle.std.specs.Prelude.{◌≡◌, ℕ, ◌+◌, ◌<◌, ◌≤◌, List, [], ◌∷◌, ◌++◌, length, drop, ◌==◌, slice_index, slice_index_or, refl}
use Rattle.std.proofs.Common.{sym, ap, ◌∙◌, add-zero, arith, lit≤, lit<}
use Rattle.std.proofs.lemmas.List.{get_or_append_left, get_or-take, get_or-drop}
use Rattle.std.proofs.lemmas.Bool.{eq-eqb}
use Rattle.format.specs.Places.{Holds, Alignment}
use Rattle.format.specs.Answers.{good, fault, unless, both}
use Rattle.format.specs.Sheets.{number_of, number_sheet, any}
use Rattle.format.specs.Meaning.{Laws}
use Rattle.format.proofs.AnswerLaws.{unless-true, both-good}
use Rattle.format.proofs.FrontLaws.{scan_number-ends}
use Rattle.format.proofs.ScalarLaws.{scalar_sheet_is}
use Rattle.twice.specs.Twice.{twice_mark, byte_at, twice}

alignment_1 : Alignment 1
alignment_1 = (0, (lit≤ tt, refl))

-- the bytes that an archive holds
held : (a xs : List ℕ) (p i : ℕ) → Holds a p xs → i < length xs → slice_index a (p + i) ≡ slice_index xs i
held a xs p i h l = sym (get_or-take (length xs) (drop p a) i 0 l ∙ get_or-drop p a i 0) ∙ ap (λ z. slice_index z i) h.same

same_bytes : (a b : List ℕ) (p : ℕ) → p + 2 ≤ length a → byte_at (a ++ b) p ≡ byte_at a p
same_bytes a b p l =
    let x : slice_index_or (a ++ b) p 0 ≡ slice_index_or a p 0 = get_or_append_left a b 0 p (omega arith) in
    let y : slice_index_or (a ++ b) (p + 1) 0 ≡ slice_index_or a (p + 1) 0 = get_or_append_left a b 0 (p + 1) (omega arith) in
    ap (λ z. unless (z == slice_index (a ++ b) (p + 1)) (fault 24 p) (good z)) x ∙ ap (λ z. unless (slice_index a p == z) (fault 24 p) (good (slice_index a p))) y

pub twice_laws : Laws twice
twice_laws = record {
  some = lit≤ tt;
  keeps = record {
    capped = lit≤ tt;
    whole = refl;
    power = alignment_1;
    longer = λ a b s p _ in-a h. ap (λ z. both z (λ n. good (number_sheet twice_mark 1 n))) (same_bytes a b p in-a.0) ∙ h;
    kept_belongs = λ v b. b;
    kept_kept = λ v b. refl;
    ends = scan_number-ends twice_mark 1 any;
    onward = λ v h t b l. (omega arith, l);
    widest_power = λ v h t b. (alignment_1, lit≤ tt);
    head_long = λ v h t x. refl;
    tail_long = λ v h t x. add-zero t;
    bytes = λ v h t x. let f = scalar_sheet_is twice_mark 1 any v x.belongs.0 x.belongs.1 in ((f.small, (f.small, tt)), tt);
    back = λ v h t p s a x _ head _.
        let f = scalar_sheet_is twice_mark 1 any v x.belongs.0 x.belongs.1 in
        let n = number_of 1 v in
        let first : slice_index_or a p 0 ≡ n = ap (λ z. slice_index a z) (sym (add-zero p)) ∙ held a (n ∷ n ∷ []) p 0 head (lit< tt) in
        let second : slice_index_or a (p + 1) 0 ≡ n = held a (n ∷ n ∷ []) p 1 head (lit< tt) in
        let there : byte_at a p ≡ good n =
        ap (λ z. unless (z == slice_index a (p + 1)) (fault 24 p) (good z)) first ∙ unless-true (n == slice_index a (p + 1)) _ _ (eq-eqb n (slice_index a (p + 1)) (sym second)) in
        both-good (byte_at a p) n (λ n. good (number_sheet twice_mark 1 n)) there ∙ ap good f.sheet;
  };
}
