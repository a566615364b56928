-- What a slice asks of its row, and what it answers by it. Assumes nothing.
use Rattle.std.proofs.Common.{◌≡◌, ℕ, ◌+◌, ◌-◌, ◌^◌, ◌<◌, ◌≤◌, Result, Ok, List, [], ◌++◌, length, take, drop, sym, refl, ap, ◌∙◌, subst, ap₂, append-nil, arith}
use Rattle.std.proofs.lemmas.List.{length-append, take-take, drop-take}
use Rattle.format.specs.Places.{limit, up, part, put, zeros, Bytes}
use Rattle.format.specs.Orders.{Order, Undoes, number, low_first}
use Rattle.format.specs.Answers.{good, both, shifted}
use Rattle.format.specs.Sheets.{slice_mark, at_place, marked, any, number_of, number_read}
use Rattle.format.specs.Meaning.{Meaning, Laws, Keeps}
use Rattle.format.specs.Items.{first_of, row}
use Rattle.format.specs.Links.{behind, far, held, slice, slice_at}
use Rattle.format.proofs.OrderLaws.{width_4, length-low_first}
use Rattle.format.proofs.AnswerLaws.{both-good, good-same}
use Rattle.format.proofs.LinkLaws.{slice-laws}
use Rattle.format.proofs.PutLaws.{put-put}
use Rattle.format.proofs.RowLaws.{row_keeps}
use Rattle.format.proofs.SheetLaws.{number_read-end, number_of_is, scan_number-any}
use Rattle.kind.specs.Asked.{value_at, Fillable, Copyable}
use Rattle.holding.proofs.Fronts.{held-there, held-found}
use Rattle.holding.proofs.FarCalls.{HeldFar}
use Rattle.holding.proofs.Through.{held_parts, held_copyable, held-copied}
use Rattle.refusal.specs.Told.{told_by}
use Rattle.refusal.specs.declared.refusal.Refusal.{Refusal}
use Rattle.lists.proofs.Sits.{slice_sits}
use Rattle.lists.specs.Spans.{span_of}
use Rattle.lists.specs.declared.slice.Span.{Span as Found}

-- a count stands in the front of its sheet
number_front : (v : List ℕ) (e : ℕ) → 6 ≤ e → number_of 4 (take e v) ≡ number_of 4 v
number_front v e h =
    let k : e ≡ 2 + (e - 2) = omega arith in
    ap number (ap (λ z. take 4 (drop 2 (take z v))) k ∙ (ap (take 4) (drop-take 2 (e - 2) v) ∙ take-take 4 (e - 2) (drop 2 v) (omega arith)))

module _ (m : Meaning) (o : Order) (s : List ℕ) (p : ℕ) where
  -- where the mark and the count end, and that the row of that count is what is scanned behind them
  pub slice-scan : (n : ℕ) → number_read slice_mark 4 any s p ≡ good n → (at_place (marked slice_mark 4) s p ≡ good (p + 6)) × (at_place (slice m o).scan s p ≡ at_place (behind slice_mark 4 (row m n)) s p)
  slice-scan n h =
      let r = number_read-end slice_mark 4 s p any n h in (
        ap (λ z. shifted p (both z (λ e. good (p + e)))) (sym (scan_number-any slice_mark 4 (drop p s))) ∙ r.0,
        ap (λ z. shifted p (both (behind slice_mark 4 (row m z) (drop p s)) (λ e. good (p + e)))) r.2,
      )

-- a slice holds the row of the count that is taken from its sheet; b is the row as the code has it
pub slice_holds :
    {m b : Meaning} {o : Order} {n : ℕ} → Laws m → Undoes o → (s : List ℕ) (p : ℕ) → Bytes s → n ≡ number (part (p + 2) 4 s) → b ≡ row m n →
    HeldFar (slice m o) b s p (p + 6) (λ h q. o.lay 4 n ++ o.lay 4 (q - (h + 4)))
slice_holds {m} {b} {o} {n} law undoes s p bytes count means = record {
  holder = (slice-laws m o law undoes).keeps;
  keeps = subst Keeps (sym means) (row_keeps m n law);
  bytes = bytes;
  found = held-found slice_mark 4 (row m (number_of 4 (drop p s))) b (means ∙ ap (row m) (sym is)) s p;
  laid = λ q h t f.
      let i = held-there slice_mark 4 (row m (number_of 4 (drop p s))) s p q f in
      let c : number_of 4 (value_at (slice m o) s p) ≡ n = ap (λ z. number_of 4 (first_of z (drop p s))) i.ends ∙ (number_front (drop p s) i.end i.long ∙ is) in
      let u : drop 6 (value_at (slice m o) s p) ≡ value_at (row m n) s (p + 6) = i.value ∙ ap (λ z. value_at (row m z) s (p + 6)) is in
      ap₂ (λ c u. far (o.lay 4 c ++ o.lay 4 (up t m.align - (h + 4))) (row m c) u t) c u ∙
      ap (λ r. far (o.lay 4 n ++ o.lay 4 (up t r.align - (h + 4))) r (value_at r s (p + 6)) t) (sym means);
} where
  is : number_of 4 (drop p s) ≡ n
  is = number_of_is slice_mark 4 s p ∙ sym count

-- the count is put right before the distance, which leads to q
pub count_put :
    {w : Meaning} {s : List ℕ} {p : ℕ} {out : List ℕ} {h t : ℕ} → Fillable w s p out h t → {o : Order} → Undoes o → (n : ℕ) → n < 256 ^ 4 → {mid next : List ℕ} → mid ≡ put out h (o.lay 4 n) →
    (q : ℕ) → next ≡ put (put mid (h + 4) (o.lay 4 (q - (h + 4)))) t (zeros (q - t)) → next ≡ put (put out h (o.lay 4 n ++ o.lay 4 (q - (h + 4)))) t (zeros (q - t))
count_put {out = out} {h} {t} f {o} undoes n small put-count q put-next =
    let behind = f.behind in
    let starts = f.starts in
    let long = undoes.long 4 n width_4 small in
    put-next ∙ ap (λ y. put y t (zeros (q - t))) (ap (λ y. put y (h + 4) (o.lay 4 (q - (h + 4)))) put-count ∙ put-put out h (o.lay 4 n) (o.lay 4 (q - (h + 4))) (h + 4) (omega arith) (omega arith))

-- the front of the sheet of n items: a mark and a count
pub front_long : (n : ℕ) → length (slice_mark ++ low_first 4 n) ≡ 6
front_long n = let k = length-append slice_mark (low_first 4 n) in let l = length-low_first 4 n in omega arith

front_put : (out mid new : List ℕ) (to n : ℕ) → to ≤ length out → mid ≡ put out to slice_mark → new ≡ put mid (to + 2) (low_first 4 n) → new ≡ put out to (slice_mark ++ low_first 4 n)
front_put out mid new to n h e f = f ∙ (ap (λ z. put z (to + 2) (low_first 4 n)) e ∙ put-put out to slice_mark (low_first 4 n) (to + 2) h refl)

-- a slice whose items are n from q on, as the code finds it
module _ (m : Meaning) (o : Order) (a : List ℕ) (p : ℕ) (x : Result Found Refusal) (y : Found) (found_in : x ≡ Ok y) (tells : told_by span_of x ≡ slice_at m o a p) where
  abbrev q : ℕ
  q = y.place

  abbrev n : ℕ
  n = y.count

  at : good (record { place = q; count = n }) ≡ slice_at m o a p
  at = sym (ap (told_by span_of) found_in) ∙ tells

  -- whose sheet is s: a mark and the count, and behind them what b, which is the row as the code has it, reads
  module _ (s : List ℕ) (h : (slice m o).reading a p ≡ good s) where
    abbrev front : List ℕ
    front = slice_mark ++ low_first 4 n

    reads : held front (row m n) a q ≡ good s
    reads = sym (both-good (slice_at m o a p) _ _ (sym at)) ∙ h

    module _ (b : Meaning) (means : b ≡ row m n) where
      pub slice-copyable : (n ≡ 0 → ⊥) → (out : List ℕ) (to : ℕ) → length a ≤ limit → to + length s ≤ length out → Copyable b a q out (to + 6)
      slice-copyable some out to capped room = held_copyable front (row m n) b means a q s reads out to (to + 6) capped (slice_sits m o a p (record { place = q; count = n }) (sym at) some) room (ap (λ z. to + z) (sym (front_long n)))

      pub slice-copied :
          (first mid out new : List ℕ) (to r : ℕ) → to ≤ length first → mid ≡ put first to slice_mark → out ≡ put mid (to + 2) (low_first 4 n) →
          ((i : List ℕ) → b.reading a q ≡ good i → (new ≡ put out (to + 6) i) × (r ≡ to + 6 + length i)) → (new ≡ put first to s) × (r ≡ to + length s)
      slice-copied first mid out new to r start mark count = held-copied front (row m n) b means a q s reads first out new to (to + 6) r start (front_put first mid out to n start mark count) (ap (λ z. to + z) (sym (front_long n)))

    -- the copy of no items is the front alone
    pub none-copied : n ≡ 0 → (first mid new : List ℕ) (to : ℕ) → to ≤ length first → mid ≡ put first to slice_mark → new ≡ put mid (to + 2) (low_first 4 n) → (new ≡ put first to s) × (to + 6 ≡ to + length s)
    none-copied none first mid new to start mark count =
        let r = held_parts front (row m n) a q s reads in
        let e : good r.0 ≡ good [] = sym r.1.0 ∙ ap (λ n. (row m n).reading a q) none in
        let same : s ≡ front = r.1.1 ∙ (ap (λ z. front ++ z) (good-same _ _ e) ∙ append-nil front) in
        (front_put first mid new to n start mark count ∙ ap (put first to) (sym same), ap (λ z. to + z) (sym (ap length same ∙ front_long n)))
