-- Pointers, arrays and slices. Assumes nothing.
use Rattle.std.specs.Prelude.{ℕ, ◌+◌, ◌-◌, max, List, ◌++◌, length, take, drop, ◌==◌}
use Rattle.format.specs.Places.{part, up, zeros, stop}
use Rattle.format.specs.Orders.{Order, low_first}
use Rattle.format.specs.Answers.{Answer, good, unless, both, shifted, inside}
use Rattle.format.specs.Sheets.{pointer_mark, array_mark, far_array_mark, slice_mark, marked, number_of}
use Rattle.format.specs.Meaning.{Meaning, Laid, sits}
use Rattle.format.specs.Texts.{target}
use Rattle.format.specs.Items.{row}

-- a mark with n bytes of its own, and behind it what it holds, one level deeper
abbrev pub behind : List ℕ → ℕ → Meaning → List ℕ → Answer ℕ
behind mark n m v = both (marked mark n v) (λ e. inside (shifted e (both (m.scan (drop e v)) (λ r. good (e + r)))))

-- where the distance at d leads, if a value of m sits there
abbrev pub linked : Meaning → Order → List ℕ → ℕ → Answer ℕ
linked m o a d = both (target o a d) (λ q. sits d q m.size m.align (length a))

-- the value of m at q, held by another, whose sheet begins with a front
abbrev pub held : List ℕ → Meaning → List ℕ → ℕ → Answer (List ℕ)
held front m a q = inside (both (m.reading a q) (λ s. good (front ++ s)))

-- the tail of a head that leads to a value of m: zeros up to the next place of its alignment, the value's head, its tail
abbrev pub far : List ℕ → Meaning → List ℕ → ℕ → Laid
far head m v t =
    let q = up t m.align in
    let x = m.lay v q (stop (q + m.size)) in
    record { head = head; tail = zeros (q - t) ++ (x.head ++ x.tail); end = x.end; widest = max 4 x.widest }

-- one distance to a value of m
abbrev pub link : List ℕ → Meaning → Order → Meaning
link mark m o = record {
  size = 4;
  align = 4;
  scan = behind mark 0 m;
  kept = λ v. mark ++ m.kept (drop 2 v);
  lay = λ v h t. far (o.lay 4 (up t m.align - h)) m (drop 2 v) t;
  shallow = λ a p. both (linked m o a p) (λ _. good p);
  reading = λ a p. both (linked m o a p) (λ q. held mark m a q);
}

abbrev pub pointer : Meaning → Order → Meaning
pointer = link pointer_mark

abbrev pub far_array : ℕ → Meaning → Order → Meaning
far_array n m = link far_array_mark (row m n)

-- n values of m in the head itself
abbrev pub array : ℕ → Meaning → Meaning
array n m = record {
  size = (row m n).size;
  align = m.align;
  scan = behind array_mark 0 (row m n);
  kept = λ v. array_mark ++ (row m n).kept (drop 2 v);
  lay = λ v. (row m n).lay (drop 2 v);
  shallow = λ a p. inside (both ((row m n).shallow a p) (λ _. good p));
  reading = held array_mark (row m n);
}

-- count values in an archive, from a place on
pub record Span : Type 0 where
  pub place : ℕ
  pub count : ℕ

-- the slice of n items whose head is at p; one of no items is found behind its count, and its distance is ignored
abbrev pub slice_of_count : Meaning → Order → List ℕ → ℕ → ℕ → Answer Span
slice_of_count m o a p n = unless (n == 0) (both (linked (row m n) o a (p + 4)) (λ q. good (record { place = q; count = n }))) (good (record { place = p + 4; count = 0 }))

abbrev pub slice_at : Meaning → Order → List ℕ → ℕ → Answer Span
slice_at m o a p = slice_of_count m o a p (o.take_back (part p 4 a))

abbrev pub slice : Meaning → Order → Meaning
slice m o = record {
  size = 8;
  align = 4;
  scan = λ v. behind slice_mark 4 (row m (number_of 4 v)) v;
  kept = λ v. take 6 v ++ (row m (number_of 4 v)).kept (drop 6 v);
  lay = λ v h t. far (o.lay 4 (number_of 4 v) ++ o.lay 4 (up t m.align - (h + 4))) (row m (number_of 4 v)) (drop 6 v) t;
  shallow = λ a p. both (slice_at m o a p) (λ _. good p);
  reading = λ a p. both (slice_at m o a p) (λ s. held (slice_mark ++ low_first 4 s.count) (row m s.count) a s.place);
}
