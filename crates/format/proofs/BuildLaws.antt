-- Laws that the code of a builder rests on: what its tests come to, and what is left when parts are put one behind another. Assumes nothing.
use Rattle.std.proofs.Common.{◌≡◌, ℕ, zero, suc, ◌+◌, ◌-◌, ◌^◌, ◌<◌, ◌≤◌, max, Bool, true, false, ◌&&◌, leb, List, ◌++◌, length, drop, sym, refl, ap, ◌∙◌, subst, ⊎_elim, zero-add, arith}
use Rattle.std.proofs.lemmas.List.{length-replicate, take_all}
use Rattle.std.proofs.lemmas.Bool.{le-leb, leb-true, and_parts, cases_lt}
use Rattle.format.specs.Places.{limit, stop, up, zeros, put, Alignment, Bytes}
use Rattle.format.specs.Answers.{Answer, Fault, good, bad, fault, unless, both, shifted}
use Rattle.format.specs.Sheets.{at_place, ended}
use Rattle.format.specs.Items.{first_of}
use Rattle.format.specs.Meaning.{Meaning, Laid, Placed, Laws}
use Rattle.format.specs.Builder.{Builder, build, Change, allowed, whole, appended, change, done}
use Rattle.format.proofs.ByteLists.{length-put}
use Rattle.format.proofs.AnswerLaws.{unless-true, unless_parts, both-good, both-both_unused, both_parts, good-same}
use Rattle.format.proofs.PutLaws.{put-put}
use Rattle.format.proofs.BuilderLaws.{Sound, Built, build_built, change_fit}

-- what a test says of each number below n
abbrev below : (ℕ → Bool) → ℕ → Bool
below f zero = true
below f (suc n) = f n && below f n

below_at : (f : ℕ → Bool) (n k : ℕ) → below f n ≡ true → k < n → f k ≡ true
below_at f zero k h l = absurd (omega arith)
below_at f (suc n) k h l =
    let r = and_parts (f n) (below f n) h in
    ⊎_elim (λ (j : k < n). below_at f n k r.1 j) (λ j. let e : n ≡ k = omega arith in subst (λ z. f z ≡ true) e r.0) (cases_lt k n)

-- every alignment of a kind may be asked for
pub alignment-allowed : (a : ℕ) → Alignment a → allowed a ≡ true
alignment-allowed a (k, (h, e)) = subst (λ z. allowed z ≡ true) (sym e) (below_at (λ i. allowed (2 ^ i)) 13 k refl (omega arith))

-- one part behind zeros, in two steps
pub put-behind : (buf : List ℕ) (u p : ℕ) (xs : List ℕ) → u ≤ length buf → u ≤ p → put (put buf u (zeros (p - u))) p xs ≡ put buf u (zeros (p - u) ++ xs)
put-behind buf u p xs h l = let n : length (zeros (p - u)) ≡ p - u = length-replicate (p - u) 0 in put-put buf u (zeros (p - u)) xs p h (omega arith)

module _ (b : Builder) (buf : List ℕ) (a : ℕ) (xs : List ℕ) (n : ℕ) (long : length xs ≡ n) where
  -- n bytes have room at p, and are put there behind zeros
  pub appended-good :
      (p w : ℕ) (mid out : List ℕ) → unless (leb (up b.used a + n) b.room) (fault 4 0) (good (up b.used a)) ≡ good p → b.used ≤ p → b.used ≤ length buf →
      w ≡ max b.align a → mid ≡ put buf b.used (zeros (p - b.used)) → out ≡ put mid p xs →
      done b buf (appended b a xs) ≡ record { answer = good p; builder = record { used = p + n; align = w; room = b.room }; buffer = out }
  appended-good p w mid out h low in-buf ew em eo =
      let u = b.used in
      let r = unless_parts (leb (up u a + n) b.room) _ (good (up u a)) p h in
      let place : up u a ≡ p = good-same (up u a) p r.1 in
      let test : leb (up u a + length xs) b.room ≡ true = ap (λ z. leb (up u a + z) b.room) long ∙ r.0 in
      let bytes : put buf u (zeros (up u a - u) ++ xs) ≡ out = ap (λ z. put buf u (zeros (z - u) ++ xs)) place ∙ (sym (put-behind buf u p xs in-buf low) ∙ (ap (λ z. put z p xs) (sym em) ∙ sym eo)) in
      let end : up u a + length xs ≡ p + n = omega arith in
      ap (done b buf) (unless-true _ _ _ test) ∙ (λ i. record { answer = good (place i); builder = record { used = end i; align = sym ew i; room = b.room }; buffer = bytes i })

-- the value at the front of a sheet
pub at_start : (scan : List ℕ → Answer ℕ) (s : List ℕ) → at_place scan s 0 ≡ scan s
at_start scan s = go (scan s) where
  go : (x : Answer ℕ) → shifted 0 (both x (λ e. good (0 + e))) ≡ x
  go (good e) = ap good (zero-add e)
  go (bad f) = ap (λ z. bad (record { number = f.number; place = z; depth = f.depth })) (zero-add f.place)

-- a sheet that is one value, all of it
module _ (m : Meaning) (v : List ℕ) (e : ℕ) (h : whole m v ≡ good e) where
  whole_parts : (m.scan v ≡ good e) × (length v ≤ e)
  whole_parts =
      let small = unless_parts (leb (length v) limit) _ _ e h in
      let scanned = both_parts (m.scan v) (ended v) e small.1 in
      let last = unless_parts (leb (length v) scanned.0) _ (good scanned.0) e scanned.1.1 in
      let same = good-same scanned.0 e last.1 in
      (scanned.1.0 ∙ ap good same, let l = leb-true (length v) scanned.0 last.0 in omega arith)

  pub whole-found : at_place m.scan v 0 ≡ good e
  whole-found = at_start m.scan v ∙ whole_parts.0

  pub whole-value : first_of (m.scan (drop 0 v)) (drop 0 v) ≡ v
  whole-value = ap (λ x. first_of x v) whole_parts.0 ∙ take_all e v whole_parts.1

-- what a build comes to, by the test of the whole sheet
pub build_whole : (b : Builder) (m : Meaning) (v : List ℕ) → change b (build m v) ≡ both (whole m v) (λ _.
    let h = up b.used m.align in
    let x = m.lay v h (stop (h + m.size)) in
    unless (leb x.end b.room) (fault 4 0) (good (record { answer = h; from = b.used; bytes = zeros (h - b.used) ++ (x.head ++ x.tail); used = x.end; align = max b.align x.widest })))
build_whole b m v = both-both_unused (leb (length v) limit) (record { number = 1; place = 0; depth = 0 }) (m.scan v) (ended v) _

-- a build by the end and the largest alignment that the layout question tells, its head at h and its tail from t on
module _
    (b : Builder) (m : Meaning) (v : List ℕ) (e : ℕ) (read : whole m v ≡ good e)
    (h t end widest : ℕ) (place : h ≡ up b.used m.align) (tail : t ≡ stop (h + m.size))
    (foretold : (h : ℕ) → ((m.lay (first_of (m.scan (drop 0 v)) (drop 0 v)) h t).end ≡ end) × ((m.lay (first_of (m.scan (drop 0 v)) (drop 0 v)) h t).widest ≡ widest))
  where
    -- what the layout is in the definition
    abbrev pub laid : Laid
    laid = m.lay v h (stop (h + m.size))

    asked : m.lay (first_of (m.scan (drop 0 v)) (drop 0 v)) h t ≡ laid
    asked = ap (λ z. m.lay z h t) (whole-value m v e read) ∙ ap (m.lay v h) tail

    reached : change b (build m v) ≡ unless (leb laid.end b.room) (fault 4 0) (good (record { answer = h; from = b.used; bytes = zeros (h - b.used) ++ (laid.head ++ laid.tail); used = laid.end; align = max b.align laid.widest }))
    reached =
        build_whole b m v ∙ both-good (whole m v) e _ read ∙ ap (λ z. let x = m.lay v z (stop (z + m.size)) in
        unless (leb x.end b.room) (fault 4 0) (good (record { answer = z; from = b.used; bytes = zeros (z - b.used) ++ (x.head ++ x.tail); used = x.end; align = max b.align x.widest }))) (sym place)

    end-here : laid.end ≡ end
    end-here = ap (λ z. z.end) (sym asked) ∙ (foretold h).0

    -- the test for room, whose answer is the build's refusal
    pub build_full : (f : Fault) → unless (leb end b.room) (fault 4 0) (good end) ≡ bad f → change b (build m v) ≡ bad f
    build_full f more = reached ∙ go (leb laid.end b.room) _ (ap (λ z. unless (leb z b.room) (fault 4 0) (good end)) end-here ∙ more) where
      go : (t : Bool) (x : Change) → unless t (fault 4 0) (good end) ≡ bad f → unless t (fault 4 0) (good x) ≡ bad f
      go true x k = let z : ◌≡◌ {A = ℕ} 0 1 = cc in absurd (omega arith)
      go false x k = let z : record { number = 4; place = 0; depth = 0 } ≡ f = cc in ap bad z

    pub build-fits :
        (a : ℕ) → end ≤ b.room → a ≡ max b.align widest →
        change b (build m v) ≡ good (record { answer = h; from = b.used; bytes = zeros (h - b.used) ++ (laid.head ++ laid.tail); used = end; align = a })
    build-fits a room wide =
        let widest-here : max b.align laid.widest ≡ a = ap (max b.align) (ap (λ z. z.widest) (sym asked) ∙ (foretold h).1) ∙ sym wide in
        reached ∙ (unless-true _ _ _ (ap (λ z. leb z b.room) end-here ∙ le-leb end b.room room) ∙
        ap good (λ i. record { answer = h; from = b.used; bytes = zeros (h - b.used) ++ (laid.head ++ laid.tail); used = end-here i; align = widest-here i }))

-- an accepted build by its change alone: where the head and the tail go, and that they have room
pub record Ordered (m : Meaning) (v : List ℕ) (b : Builder) (x : Change) : Type 0 where
  pub low : b.used ≤ x.answer
  pub high : x.answer + m.size ≤ x.used
  pub room : x.used ≤ b.room
  pub power : Alignment x.align
  pub placed : Placed m v x.answer (x.answer + m.size)
  pub end : (m.lay v x.answer (x.answer + m.size)).end ≡ x.used
  pub from : x.from ≡ b.used
  pub bytes : x.bytes ≡ zeros (x.answer - b.used) ++ ((m.lay v x.answer (x.answer + m.size)).head ++ (m.lay v x.answer (x.answer + m.size)).tail)

module _ (m : Meaning) (v : List ℕ) (b : Builder) (x : Change) (laws : Laws m) (s : Sound b) (bytes : Bytes v) (h : change b (build m v) ≡ good x) where
  pub ordered : Ordered m v b x
  ordered = go (build_built m v b x laws s bytes h) where
    go : Built m v b x → Ordered m v b x
    go y =
        let p = y.place in
        let e = y.next in
        let placed : Placed m v p (p + m.size) = subst (Placed m v p) e y.placed in
        let onward : p + m.size ≤ (m.lay v p (p + m.size)).end = (laws.keeps.onward v p (p + m.size) placed.belongs placed.reached).0 in
        let same : m.lay v p y.tail ≡ m.lay v p (p + m.size) = ap (m.lay v p) e in
        let end : (m.lay v p y.tail).end ≡ (m.lay v p (p + m.size)).end = ap (λ z. z.end) same in
        let power = (change_fit (build m v) b s (laws, bytes) x h).power in
        subst (Ordered m v b) y.is (record {
          low = y.low;
          high = omega arith;
          room = y.room;
          power = subst (λ z. Alignment z.align) (sym y.is) power;
          placed = placed;
          end = sym end;
          from = refl;
          bytes = ap (λ z. zeros (p - b.used) ++ (z.head ++ z.tail)) same;
        })

  -- the sheet is one value, and nothing else
  pub build-found : at_place m.scan v 0 ≡ good (length v)
  build-found = at_start m.scan v ∙ ordered.placed.belongs.1

  pub build-value : first_of (m.scan (drop 0 v)) (drop 0 v) ≡ v
  build-value = ap (λ z. first_of z v) ordered.placed.belongs.1 ∙ take_all (length v) v (omega arith)

  -- zeros, the head and the tail, in three steps
  pub build-done :
      (buf mid out : List ℕ) → b.room ≡ length buf → mid ≡ put buf b.used (zeros (x.answer - b.used)) →
      out ≡ put (put mid x.answer (m.lay v x.answer (x.answer + m.size)).head) (x.answer + m.size) (m.lay v x.answer (x.answer + m.size)).tail →
      record { answer = good x.answer; builder = record { used = x.used; align = x.align; room = b.room }; buffer = out } ≡ done b buf (change b (build m v))
  build-done buf mid out own em eo =
      let o = ordered in
      let p = x.answer in
      let u = b.used in
      let l = m.lay v p (p + m.size) in
      let long = laws.keeps.head_long v p (p + m.size) o.placed in
      let n : length (zeros (p - u)) ≡ p - u = length-replicate (p - u) 0 in
      let m' = length-put buf u (zeros (p - u)) (omega arith) in
      let lm : length mid ≡ length buf = ap length em ∙ m' in
      let all : out ≡ put buf x.from x.bytes =
      eo ∙ (put-put mid p l.head l.tail (p + m.size) (omega arith) (omega arith) ∙
      (ap (λ z. put z p (l.head ++ l.tail)) em ∙ (put-behind buf u p (l.head ++ l.tail) (omega arith) o.low ∙ (ap (put buf u) (sym o.bytes) ∙ ap (λ z. put buf z x.bytes) (sym o.from))))) in
      ap (λ z. record { answer = good x.answer; builder = record { used = x.used; align = x.align; room = b.room }; buffer = z }) all ∙ ap (done b buf) (sym h)
