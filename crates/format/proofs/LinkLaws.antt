-- Pointers, arrays and slices keep the laws that what they hold keeps. Assumes nothing.
use Rattle.std.proofs.Common.{◌≡◌, ℕ, ◌+◌, ◌-◌, ◌*◌, ◌^◌, ◌<◌, ◌≤◌, eqb, ◌⊎◌, List, [], ◌++◌, length, take, drop, sym, refl, ap, ◌∙◌, subst, ap₂, inl, inr, arith, lit<, lit≤}
use native.Mathlib.Nat.{one-le-mul}
use Rattle.std.proofs.lemmas.List.{length-append, length-take-le, take_at, take-append-drop, drop_at}
use Rattle.std.proofs.lemmas.Bool.{ne_eqb, cases_eq}
use Rattle.format.specs.Places.{limit, up, part, Holds, Bytes}
use Rattle.format.specs.Orders.{Order, Undoes, low_first, number}
use Rattle.format.specs.Answers.{Answer, good, both}
use Rattle.format.specs.Sheets.{number_of, pointer_mark, array_mark, far_array_mark, slice_mark}
use Rattle.format.specs.Meaning.{Meaning, Belongs, Placed, Moved, Keeps, Laws}
use Rattle.format.specs.Items.{row}
use Rattle.format.specs.Links.{behind, linked, held, far, link, pointer, far_array, array, Span, slice_of_count, slice}
use Rattle.format.proofs.ByteLists.{bytes-append, bytes_take, bytes-part, length_part, take_sum}
use Rattle.format.proofs.OrderLaws.{width_4, number_lt, low_first-number}
use Rattle.format.proofs.AnswerLaws.{unless-false, both-both}
use Rattle.format.proofs.PlaceLaws.{holds_left, holds_right, part-longer}
use Rattle.format.proofs.RoundLaws.{mod_on}
use Rattle.format.proofs.RowLaws.{row_keeps}
use Rattle.format.proofs.DistanceLaws.{taken-there}
use Rattle.format.proofs.MarkLaws.{Fronted, fronted, front_of, behind-ends, Whole, whole_rest, whole_from, marked-kept_belongs, marked-kept_kept}
use Rattle.format.proofs.FarLaws.{held-from, held-longer, through_longer, far-widest, far-onward, Filled, filled}

-- one distance to what keeps the laws keeps them
pub link_laws : (mark : List ℕ) (m : Meaning) (o : Order) → Bytes mark → length mark ≡ 2 → Keeps m → Undoes o → Laws (link mark m o)
link_laws mark m o bytes two k law = record {
  some = lit≤ tt;
  keeps = record {
    capped = lit≤ tt;
    whole = refl;
    power = (2, (lit≤ tt, refl));
    longer = λ a b s p l i h. through_longer m o k mark a b s p l i.0 h;
    kept_belongs = marked-kept_belongs mark m bytes two k;
    kept_kept = marked-kept_kept mark m bytes two k;
    ends = behind-ends mark 0 m k;
    onward = λ v h t b l. far-onward m k (drop 2 v) t (inner v b) l;
    widest_power = λ v h t b. far-widest m k (drop 2 v) t (inner v b);
    head_long = λ v h t p. law.long 4 _ width_4 ((tail v h t p).near h);
    tail_long = λ v h t p. (tail v h t p).tail_long;
    bytes = λ v h t p. (law.bytes 4 _ width_4 ((tail v h t p).near h), (tail v h t p).tail-bytes);
    back = λ v h t p s a l moved. (tail v h t l).again o law mark a h p s (omega arith) moved;
  };
} where
  inner : (v : List ℕ) → Whole mark 0 m v → Belongs m (drop 2 v)
  inner = whole_rest mark 0 m

  tail : (v : List ℕ) (h t : ℕ) → Placed (link mark m o) v h t → Filled m (drop 2 v) t
  tail v h t p = filled m k (drop 2 v) t (inner v p.belongs) p.fits

pub pointer_laws : (m : Meaning) (o : Order) → Laws m → Undoes o → Laws (pointer m o)
pointer_laws m o k law = link_laws pointer_mark m o (lit< tt, (lit< tt, tt)) refl k.keeps law

pub far_array_laws : (n : ℕ) (m : Meaning) (o : Order) → Laws m → Undoes o → Laws (far_array n m o)
far_array_laws n m o k law = link_laws far_array_mark (row m n) o (lit< tt, (lit< tt, tt)) refl (row_keeps m n k) law

-- items in the head itself, behind a mark
pub array_laws : (n : ℕ) (m : Meaning) → 1 ≤ n → Laws m → Laws (array n m)
array_laws n m least law = record {
  some = let e : 1 ≤ n * m.size = one-le-mul least law.some in omega arith;
  keeps = record {
    capped = k.capped;
    whole = k.whole;
    power = k.power;
    longer = held-longer array_mark (row m n) k;
    kept_belongs = marked-kept_belongs array_mark (row m n) (lit< tt, (lit< tt, tt)) refl k;
    kept_kept = marked-kept_kept array_mark (row m n) (lit< tt, (lit< tt, tt)) refl k;
    ends = behind-ends array_mark 0 (row m n) k;
    onward = λ v h t b l. k.onward (drop 2 v) h t (inner v b) l;
    widest_power = λ v h t b. k.widest_power (drop 2 v) h t (inner v b);
    head_long = λ v h t p. k.head_long (drop 2 v) h t (placed v h t p);
    tail_long = λ v h t p. k.tail_long (drop 2 v) h t (placed v h t p);
    bytes = λ v h t p. k.bytes (drop 2 v) h t (placed v h t p);
    back = λ v h t p s a l moved head tail. held-from array_mark (row m n) a p _ (k.back (drop 2 v) h t p s a (placed v h t l) moved head tail);
  };
} where
  k : Keeps (row m n)
  k = row_keeps m n law

  inner : (v : List ℕ) → Whole array_mark 0 (row m n) v → Belongs (row m n) (drop 2 v)
  inner = whole_rest array_mark 0 (row m n)

  placed : (v : List ℕ) (h t : ℕ) → Placed (array n m) v h t → Placed (row m n) (drop 2 v) h t
  placed v h t p = record { belongs = inner v p.belongs; aligned = p.aligned; behind = p.behind; reached = p.reached; fits = p.fits }

-- what a slice reads: nothing through its distance where its count is 0, else its items
abbrev spanned : Meaning → List ℕ → Span → Answer (List ℕ)
spanned m a s = held (slice_mark ++ low_first 4 s.count) (row m s.count) a s.place

module _ (m : Meaning) (o : Order) (a : List ℕ) (p : ℕ) where
  slice-count : (n : ℕ) → o.take_back (part p 4 a) ≡ n → (slice m o).reading a p ≡ both (slice_of_count m o a p n) (spanned m a)
  slice-count n e = ap (λ n. both (slice_of_count m o a p n) (spanned m a)) e

  slice-none : o.take_back (part p 4 a) ≡ 0 → (slice m o).reading a p ≡ good (slice_mark ++ low_first 4 0)
  slice-none = slice-count 0

  slice-some : (n : ℕ) → o.take_back (part p 4 a) ≡ n → (n ≡ 0 → ⊥) → (slice m o).reading a p ≡ both (linked (row m n) o a (p + 4)) (held (slice_mark ++ low_first 4 n) (row m n) a)
  slice-some n e ne =
      slice-count n e ∙
      (ap (λ z. both z (spanned m a)) (unless-false (eqb n 0) _ _ (ne_eqb n 0 ne)) ∙ both-both (linked (row m n) o a (p + 4)) (λ q. record { place = q; count = n }) (spanned m a))

-- the count of a slice is in the front of its sheet
count_front : (v x : List ℕ) (e : ℕ) → 6 ≤ e → e ≤ length v → number_of 4 (take e v ++ x) ≡ number_of 4 v
count_front v x e h l =
    let k = length-take-le e v l in
    ap number (part-longer (take e v) x 2 4 (omega arith) ∙ (sym (part-longer (take e v) (drop e v) 2 4 (omega arith)) ∙ ap (part 2 4) (take-append-drop e v)))

module _ (v : List ℕ) (bytes : Bytes v) (room : 6 ≤ length v) where
  count_small : number_of 4 v < 256 ^ 4
  count_small = subst (λ z. number_of 4 v < 256 ^ z) (length_part 2 4 v room) (number_lt (part 2 4 v) (bytes-part 2 4 v bytes))

  front_is : (mark : List ℕ) → take 2 v ≡ mark → take 6 v ≡ mark ++ low_first 4 (number_of 4 v)
  front_is mark e = take_sum 2 4 v ∙ ap₂ ◌++◌ e (sym (subst (λ z. low_first z (number_of 4 v) ≡ part 2 4 v) (length_part 2 4 v room) (low_first-number (part 2 4 v) (bytes-part 2 4 v bytes))))

module _ (m : Meaning) (o : Order) (k : Laws m) where
  slice-longer : (a b s : List ℕ) (p : ℕ) → length (a ++ b) ≤ limit → p + 8 ≤ length a → (slice m o).reading a p ≡ good s → (slice m o).reading (a ++ b) p ≡ good s
  slice-longer a b s p l w h = go (o.take_back (part p 4 a)) refl (cases_eq _ 0) where
    same : o.take_back (part p 4 (a ++ b)) ≡ o.take_back (part p 4 a)
    same = ap o.take_back (part-longer a b p 4 (omega arith))

    go : (n : ℕ) → o.take_back (part p 4 a) ≡ n → (n ≡ 0) ⊎ (n ≡ 0 → ⊥) → (slice m o).reading (a ++ b) p ≡ good s
    go n e (inl z) = slice-none m o (a ++ b) p (same ∙ (e ∙ z)) ∙ (sym (slice-none m o a p (e ∙ z)) ∙ h)
    go n e (inr ne) =
        slice-some m o (a ++ b) p n (same ∙ e) ne ∙
        through_longer (row m n) o (row_keeps m n k) (slice_mark ++ low_first 4 n) a b s (p + 4) l (omega arith) (sym (slice-some m o a p n e ne) ∙ h)

  slice-ends : (v : List ℕ) (e : ℕ) → (slice m o).scan v ≡ good e → (e ≤ length v) × ((t : List ℕ) → (slice m o).scan (take e v ++ t) ≡ good e)
  slice-ends v e h =
      let s = fronted slice_mark 4 (row m (number_of 4 v)) v e h in
      let ends = behind-ends slice_mark 4 (row m (number_of 4 v)) (row_keeps m _ k) v e h in
      (ends.0, λ t. ap (λ z. behind slice_mark 4 (row m z) (take e v ++ t)) (count_front v t e (omega (arith, s.sum)) ends.0) ∙ ends.1 t)

  module _ (v : List ℕ) (b : Belongs (slice m o) v) where
    -- what the sheet of a slice says: its front, its items, and a count of four bytes
    pieces : Fronted slice_mark 4 (row m (number_of 4 v)) v (length v)
    pieces = fronted slice_mark 4 (row m (number_of 4 v)) v (length v) b.1

    items : Belongs (row m (number_of 4 v)) (drop 6 v)
    items = whole_rest slice_mark 4 (row m (number_of 4 v)) v b

    small : number_of 4 v < 256 ^ 4
    small = count_small v b.0 pieces.room

    slice_kept : Belongs (slice m o) ((slice m o).kept v) × ((slice m o).kept ((slice m o).kept v) ≡ (slice m o).kept v)
    slice_kept =
        let c = number_of 4 v in
        let x = (row m c).kept (drop 6 v) in
        let f = front_of slice_mark 4 (row m c) v pieces.front pieces.room in
        let same : number_of 4 (take 6 v ++ x) ≡ c = count_front v x 6 (omega arith) pieces.room in (
          subst (λ z. Whole slice_mark 4 (row m z) (take 6 v ++ x)) (sym same)
              (whole_from slice_mark 4 (row m c) (take 6 v) x (bytes_take 6 v b.0) f.0 f.1 ((row_keeps m c k).kept_belongs _ items)),
          ap₂ (λ f z. f ++ (row m z).kept (drop 6 (take 6 v ++ x))) (take_at (take 6 v) x 6 f.1) same ∙
              (ap (λ z. take 6 v ++ (row m c).kept z) (drop_at (take 6 v) x 6 f.1) ∙ ap (λ z. take 6 v ++ z) ((row_keeps m c k).kept_kept _ items)),
        )

    tail-filled : (t : ℕ) → (far [] (row m (number_of 4 v)) (drop 6 v) t).end ≤ limit → Filled (row m (number_of 4 v)) (drop 6 v) t
    tail-filled t fits = filled (row m (number_of 4 v)) (row_keeps m _ k) (drop 6 v) t items fits

  slice_back :
      Undoes o → (v : List ℕ) (h t p s : ℕ) (a : List ℕ) → Placed (slice m o) v h t → Moved ((slice m o).lay v h t).widest h t p s →
      Holds a p ((slice m o).lay v h t).head → Holds a s ((slice m o).lay v h t).tail → (slice m o).reading a p ≡ good ((slice m o).kept v)
  slice_back law v h t p s a l moved head tail = go (cases_eq (number_of 4 v) 0) where
    c_long : length (o.lay 4 (number_of 4 v)) ≡ 4
    c_long = law.long 4 _ width_4 (small v l.belongs)

    count : o.take_back (part p 4 a) ≡ number_of 4 v
    count = taken-there o law a 4 (number_of 4 v) p width_4 (small v l.belongs) (holds_left a p (o.lay 4 (number_of 4 v)) (o.lay 4 (up t m.align - (h + 4))) head)

    distance : Holds a (p + 4) (o.lay 4 (up t m.align - (h + 4)))
    distance = subst (λ z. Holds a (p + z) (o.lay 4 (up t m.align - (h + 4)))) c_long (holds_right a p (o.lay 4 (number_of 4 v)) (o.lay 4 (up t m.align - (h + 4))) head)

    sheet : (slice_mark ++ low_first 4 (number_of 4 v)) ++ (row m (number_of 4 v)).kept (drop 6 v) ≡ (slice m o).kept v
    sheet =
        let f = pieces v l.belongs in
        ap (λ z. z ++ (row m (number_of 4 v)).kept (drop 6 v)) (sym (front_is v l.belongs.0 f.room slice_mark f.front))

    go : (number_of 4 v ≡ 0) ⊎ (number_of 4 v ≡ 0 → ⊥) → (slice m o).reading a p ≡ good ((slice m o).kept v)
    go (inl z) = slice-none m o a p (count ∙ z) ∙ ap good (sym (ap (λ n. (slice_mark ++ low_first 4 n) ++ (row m n).kept (drop 6 v)) z) ∙ sheet)
    go (inr ne) =
        slice-some m o a p _ count ne ∙
        ((tail-filled v l.belongs t l.fits).again o law (slice_mark ++ low_first 4 (number_of 4 v)) a (h + 4) (p + 4) s (omega arith)
        (record { multiple = mod_on _ p h 4 moved.multiple; together = omega arith }) distance tail ∙
        ap good sheet)

-- a count, and one distance to so many items in a row
pub slice-laws : (m : Meaning) (o : Order) → Laws m → Undoes o → Laws (slice m o)
slice-laws m o k law = record {
  some = lit≤ tt;
  keeps = record {
    capped = lit≤ tt;
    whole = refl;
    power = (2, (lit≤ tt, refl));
    longer = λ a b s p l i h. slice-longer m o k a b s p l i.0 h;
    kept_belongs = λ v b. (slice_kept m o k v b).0;
    kept_kept = λ v b. (slice_kept m o k v b).1;
    ends = slice-ends m o k;
    onward = λ v h t b l. far-onward (row m (number_of 4 v)) (row_keeps m _ k) (drop 6 v) t (items m o k v b) l;
    widest_power = λ v h t b. far-widest (row m (number_of 4 v)) (row_keeps m _ k) (drop 6 v) t (items m o k v b);
    head_long = λ v h t p. length-append _ _ ∙ ap₂ ◌+◌ (law.long 4 _ width_4 (small m o k v p.belongs)) (law.long 4 _ width_4 ((tail v h t p).near (h + 4)));
    tail_long = λ v h t p. (tail v h t p).tail_long;
    bytes = λ v h t p.
        (bytes-append _ _ (law.bytes 4 _ width_4 (small m o k v p.belongs)) (law.bytes 4 _ width_4 ((tail v h t p).near (h + 4))), (tail v h t p).tail-bytes);
    back = slice_back m o k law;
  };
} where
  tail : (v : List ℕ) (h t : ℕ) → Placed (slice m o) v h t → Filled (row m (number_of 4 v)) (drop 6 v) t
  tail v h t p = tail-filled m o k v p.belongs t p.fits
