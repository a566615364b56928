-- Items side by side keep the laws that each keeps: by induction on how many there are. Assumes nothing.
use Rattle.std.proofs.Common.{◌≡◌, ℕ, zero, suc, ◌+◌, ◌*◌, ◌%◌, ◌≤◌, max, List, [], ◌++◌, length, take, drop, sym, refl, ap, ◌∙◌, subst, ap₂, append-nil, arith}
use Rattle.std.proofs.lemmas.List.{length-append, length-take-le, length-drop, take_all, take_at, drop_at}
use Rattle.format.specs.Places.{limit, stop, Alignment, Holds, Bytes}
use Rattle.format.specs.Answers.{good, both, shifted}
use Rattle.format.specs.Meaning.{Meaning, Belongs, Sits, Placed, Moved, Keeps, Laws}
use Rattle.format.specs.Items.{first_of, rest_of, scan_items, kept_items, lay_items, read_items, row}
use Rattle.format.proofs.ByteLists.{bytes-append, bytes_take, bytes_drop, take_sum_append}
use Rattle.format.proofs.AnswerLaws.{both-good, both_parts, shifted-good, good-same}
use Rattle.format.proofs.PlaceLaws.{holds_left, holds_right}
use Rattle.format.proofs.RoundLaws.{same-mod, alignment-max, mod_on, mod_sum, stop-whole, stop-more}

-- the first item of a scanned row, and how much the others take
record Scanned (m : Meaning) (n : ℕ) (v : List ℕ) (e : ℕ) : Type 0 where
  own : ℕ
  rest : ℕ
  found : m.scan v ≡ good own
  others : scan_items m n (drop own v) ≡ good rest
  sum : e ≡ own + rest

scanned : (m : Meaning) (n : ℕ) (v : List ℕ) (e : ℕ) → scan_items m (suc n) v ≡ good e → Scanned m n v e
scanned m n v e h =
    let x = both_parts (m.scan v) _ e h in
    let y = both_parts (scan_items m n (drop x.0 v)) _ e (shifted-good x.0 _ e x.1.1) in
    record { own = x.0; rest = y.0; found = x.1.0; others = y.1.0; sum = sym (good-same _ _ y.1.1) }

module _ (m : Meaning) (law : Laws m) where
  -- a value alone, taken from the front of a sheet
  alone : (v : List ℕ) (e : ℕ) → m.scan v ≡ good e → (e ≤ length v) × (length (take e v) ≡ e) × (m.scan (take e v) ≡ good (length (take e v)))
  alone v e h =
      let ends = law.keeps.ends v e h in
      let l = length-take-le e v ends.0 in
      (ends.0, l, ap m.scan (sym (append-nil (take e v))) ∙ (ends.1 [] ∙ ap good (sym l)))

  -- and put before another front
  before : (x y : List ℕ) → m.scan x ≡ good (length x) → m.scan (x ++ y) ≡ good (length x)
  before x y h = ap (λ z. m.scan (z ++ y)) (sym (take_all (length x) x (omega arith))) ∙ (law.keeps.ends x (length x) h).1 y

  scan-next : (n : ℕ) (x y : List ℕ) (r : ℕ) → m.scan x ≡ good (length x) → scan_items m n y ≡ good r → scan_items m (suc n) (x ++ y) ≡ good (length x + r)
  scan-next n x y r f g =
      both-good (m.scan (x ++ y)) (length x) _ (before x y f) ∙
      ap (λ z. shifted (length x) (both z (λ r. good (length x + r)))) (ap (scan_items m n) (drop_at x y (length x) refl) ∙ g)

  row_ends : (n : ℕ) (v : List ℕ) (e : ℕ) → scan_items m n v ≡ good e → (e ≤ length v) × ((t : List ℕ) → scan_items m n (take e v ++ t) ≡ good e)
  row_ends zero v e h = let z : 0 ≡ e = cc in (omega arith, λ t. h)
  row_ends (suc n) v e h =
      let s = scanned m n v e h in
      let i = s.own in
      let r = s.rest in
      let one = alone v i s.found in
      let ih = row_ends n (drop i v) r s.others in
      let l = length-drop i v in
      let k = one.0 in
      let j = ih.0 in
      let u = s.sum in (
        omega arith,
        λ t.
            ap (scan_items m (suc n)) (ap (λ z. take z v ++ t) u ∙ take_sum_append i r v t) ∙
            (scan-next n (take i v) (take r (drop i v) ++ t) r one.2 (ih.1 t) ∙ ap good (ap (λ z. z + r) one.1 ∙ sym u)),
      )

  -- a whole row is its first item and a whole row of the others
  cut : (n : ℕ) (v : List ℕ) → Belongs (row m (suc n)) v → Belongs m (first_of (m.scan v) v) × Belongs (row m n) (rest_of (m.scan v) v)
  cut n v b =
      let s = scanned m n v (length v) b.1 in
      let i = s.own in
      let one = alone v i s.found in
      let l = length-drop i v in
      let u = s.sum in
      let rest : s.rest ≡ length (drop i v) = omega arith in (
        subst (λ z. Belongs m (first_of z v)) (sym s.found) (bytes_take i v b.0, one.2),
        subst (λ z. Belongs (row m n) (rest_of z v)) (sym s.found) (bytes_drop i v b.0, s.others ∙ ap good rest),
      )

  -- and back
  record Joined (n : ℕ) (x y : List ℕ) : Type 0 where
    whole : Belongs (row m (suc n)) (x ++ y)
    first : first_of (m.scan (x ++ y)) (x ++ y) ≡ x
    rest : rest_of (m.scan (x ++ y)) (x ++ y) ≡ y

  join : (n : ℕ) (x y : List ℕ) → Belongs m x → Belongs (row m n) y → Joined n x y
  join n x y a b = record {
    whole = (bytes-append x y a.0 b.0, scan-next n x y (length y) a.1 b.1 ∙ ap good (sym (length-append x y)));
    first = ap (λ z. first_of z (x ++ y)) (before x y a.1) ∙ take_at x y (length x) refl;
    rest = ap (λ z. rest_of z (x ++ y)) (before x y a.1) ∙ drop_at x y (length x) refl;
  }

  row_kept : (n : ℕ) (v : List ℕ) → Belongs (row m n) v → Belongs (row m n) (kept_items m n v) × (kept_items m n (kept_items m n v) ≡ kept_items m n v)
  row_kept zero v b = ((tt, refl), refl)
  row_kept (suc n) v b =
      let c = cut n v b in
      let others = row_kept n (rest_of (m.scan v) v) c.1 in
      let j = join n (m.kept (first_of (m.scan v) v)) (kept_items m n (rest_of (m.scan v) v)) (law.keeps.kept_belongs _ c.0) others.0 in
      (j.whole, ap₂ (λ x y. m.kept x ++ kept_items m n y) j.first j.rest ∙ ap₂ ◌++◌ (law.keeps.kept_kept _ c.0) others.1)

  row-longer : (n : ℕ) (a b s : List ℕ) (p : ℕ) → length (a ++ b) ≤ limit → Sits (row m n) a p → read_items m n a p ≡ good s → read_items m n (a ++ b) p ≡ good s
  row-longer zero a b s p l i h = h
  row-longer (suc n) a b s p l i h =
      let x = both_parts (m.reading a p) _ s h in
      let y = both_parts (read_items m n a (p + m.size)) _ s x.1.1 in
      let k = length-append a b in
      let within = i.0 in
      let more : stop (suc n * m.size) ≡ m.size + stop (n * m.size) = stop-more n m.size (omega arith) in
      let here = law.keeps.longer a b x.0 p l (omega arith, i.1) x.1.0 in
      let aligned : (p + m.size) % m.align ≡ 0 = mod_sum m.align p m.size i.1 law.keeps.whole in
      let there = row-longer n a b y.0 (p + m.size) l (omega arith, aligned) y.1.0 in
      both-good (m.reading (a ++ b) p) x.0 _ here ∙ (both-good (read_items m n (a ++ b) (p + m.size)) y.0 _ there ∙ y.1.1)

  row-onward : (n : ℕ) (v : List ℕ) (h t : ℕ) → Belongs (row m n) v → t ≤ 2147483648 → (t ≤ (lay_items m n v h t).end) × ((lay_items m n v h t).end ≤ 2147483648)
  row-onward zero v h t b l = (omega arith, l)
  row-onward (suc n) v h t b l =
      let c = cut n v b in
      let x = law.keeps.onward (first_of (m.scan v) v) h t c.0 l in
      let y = row-onward n (rest_of (m.scan v) v) (h + m.size) _ c.1 x.1 in
      let k = x.0 in
      let j = y.0 in
      (omega arith, y.1)

  row-widest : (n : ℕ) (v : List ℕ) (h t : ℕ) → Belongs (row m n) v → Alignment (lay_items m n v h t).widest × (m.align ≤ (lay_items m n v h t).widest)
  row-widest zero v h t b = (law.keeps.power, omega arith)
  row-widest (suc n) v h t b =
      let c = cut n v b in
      let x = law.keeps.widest_power (first_of (m.scan v) v) h t c.0 in
      let y = row-widest n (rest_of (m.scan v) v) (h + m.size) (m.lay (first_of (m.scan v) v) h t).end c.1 in
      let k = x.1 in
      (alignment-max _ _ x.0 y.0, omega arith)

  -- a row that may be filled in: so may its first item, and the others behind it
  record Next (n : ℕ) (v : List ℕ) (h t : ℕ) : Type 0 where
    here : Placed m (first_of (m.scan v) v) h t
    there : Placed (row m n) (rest_of (m.scan v) v) (h + m.size) (m.lay (first_of (m.scan v) v) h t).end
    more : stop (suc n * m.size) ≡ m.size + stop (n * m.size)

  next : (n : ℕ) (v : List ℕ) (h t : ℕ) → Placed (row m (suc n)) v h t → Next n v h t
  next n v h t p =
      let c = cut n v p.belongs in
      let x = law.keeps.onward (first_of (m.scan v) v) h t c.0 p.reached in
      let y = row-onward n (rest_of (m.scan v) v) (h + m.size) _ c.1 x.1 in
      let k = x.0 in
      let j = y.0 in
      let more : stop (suc n * m.size) ≡ m.size + stop (n * m.size) = stop-more n m.size (omega arith) in
      let aligned : (h + m.size) % m.align ≡ 0 = mod_sum m.align h m.size p.aligned law.keeps.whole in
      record {
        here = record { belongs = c.0; aligned = p.aligned; behind = omega arith; reached = p.reached; fits = omega arith };
        there = record { belongs = c.1; aligned = aligned; behind = omega arith; reached = x.1; fits = p.fits };
        more = more;
      }

  row-head_long : (n : ℕ) (v : List ℕ) (h t : ℕ) → Placed (row m n) v h t → length (lay_items m n v h t).head ≡ stop (n * m.size)
  row-head_long zero v h t p = omega arith
  row-head_long (suc n) v h t p =
      let s = next n v h t p in
      length-append _ _ ∙ (ap₂ ◌+◌ (law.keeps.head_long _ h t s.here) (row-head_long n _ _ _ s.there) ∙ sym s.more)

  row-tail_long : (n : ℕ) (v : List ℕ) (h t : ℕ) → Placed (row m n) v h t → t + length (lay_items m n v h t).tail ≡ (lay_items m n v h t).end
  row-tail_long zero v h t p = omega arith
  row-tail_long (suc n) v h t p =
      let s = next n v h t p in
      let x = law.keeps.tail_long _ h t s.here in
      let y = row-tail_long n _ _ _ s.there in
      simp length-append (omega arith)

  row-bytes : (n : ℕ) (v : List ℕ) (h t : ℕ) → Placed (row m n) v h t → Bytes (lay_items m n v h t).head × Bytes (lay_items m n v h t).tail
  row-bytes zero v h t p = (tt, tt)
  row-bytes (suc n) v h t p =
      let s = next n v h t p in
      let x = law.keeps.bytes _ h t s.here in
      let y = row-bytes n _ _ _ s.there in
      (bytes-append _ _ x.0 y.0, bytes-append _ _ x.1 y.1)

  row_back :
      (n : ℕ) (v : List ℕ) (h t p s : ℕ) (a : List ℕ) → Placed (row m n) v h t → Moved (lay_items m n v h t).widest h t p s →
      Holds a p (lay_items m n v h t).head → Holds a s (lay_items m n v h t).tail → read_items m n a p ≡ good (kept_items m n v)
  row_back zero v h t p s a l o f g = refl
  row_back (suc n) v h t p s a l o f g =
      let k = next n v h t l in
      let x = m.lay (first_of (m.scan v) v) h t in
      let y = lay_items m n (rest_of (m.scan v) v) (h + m.size) x.end in
      let wx = (law.keeps.widest_power _ h t k.here.belongs).0 in
      let wy = (row-widest n _ (h + m.size) x.end k.there.belongs).0 in
      let w = alignment-max _ _ wx wy in
      let head-x = law.keeps.head_long _ h t k.here in
      let tail-x = law.keeps.tail_long _ h t k.here in
      let by_x : p % x.widest ≡ h % x.widest = same-mod x.widest (max x.widest y.widest) p h wx w (omega arith) o.multiple in
      let by_y : p % y.widest ≡ h % y.widest = same-mod y.widest (max x.widest y.widest) p h wy w (omega arith) o.multiple in
      let here = law.keeps.back _ h t p s a k.here (record { multiple = by_x; together = o.together }) (holds_left a p x.head y.head f) (holds_left a s x.tail y.tail g) in
      let there = row_back n (rest_of (m.scan v) v) (h + m.size) x.end (p + m.size) (s + length x.tail) a k.there
      (record { multiple = mod_on y.widest p h m.size by_y; together = omega arith })
      (subst (λ z. Holds a (p + z) y.head) head-x (holds_right a p x.head y.head f)) (holds_right a s x.tail y.tail g) in
      both-good (m.reading a p) _ _ here ∙ both-good (read_items m n a (p + m.size)) _ _ there

-- n items in a row keep what each keeps, but that the size is not 0
pub row_keeps : (m : Meaning) (n : ℕ) → Laws m → Keeps (row m n)
row_keeps m n law = record {
  capped = omega arith;
  whole = stop-whole n m.size m.align law.keeps.power law.keeps.whole;
  power = law.keeps.power;
  longer = row-longer m law n;
  kept_belongs = λ v b. (row_kept m law n v b).0;
  kept_kept = λ v b. (row_kept m law n v b).1;
  ends = row_ends m law n;
  onward = row-onward m law n;
  widest_power = row-widest m law n;
  head_long = row-head_long m law n;
  tail_long = row-tail_long m law n;
  bytes = row-bytes m law n;
  back = row_back m law n;
}
