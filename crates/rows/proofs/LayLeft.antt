-- A row that is laid out or filled in item by item: what is done, and what is left. Assumes nothing.
use Rattle.std.proofs.Common.{◌≡◌, ℕ, zero, suc, ◌+◌, ◌%◌, ◌≤◌, max, List, [], ◌++◌, length, sym, refl, ap, ◌∙◌, subst, append_assoc, add-zero, arith}
use Rattle.std.proofs.lemmas.List.{length-append}
use Rattle.format.specs.Places.{put, Bytes}
use Rattle.format.specs.Meaning.{Meaning, Laid, Keeps, Laws}
use Rattle.format.specs.Items.{first_of, rest_of, beside, lay_items, row}
use Rattle.format.proofs.AnswerLaws.{good-same}
use Rattle.format.proofs.PutLaws.{put_nil, put-beside}
use Rattle.format.proofs.RoundLaws.{mod_sum, stop-more}
use Rattle.format.proofs.RowLaws.{row_keeps}
use Rattle.kind.specs.Asked.{value_at, Next, Askable, Foretold, Fillable, filled}
use Rattle.rows.proofs.Values.{scan-more, found-more, value-belongs, value_placed, lay-more}

-- the row of k items at q in a sheet, laid
abbrev laid : Meaning → List ℕ → (k q h t : ℕ) → Laid
laid m s k q h t = lay_items m k (value_at (row m k) s q) h t

-- no items end where they begin
nothing : (m : Meaning) (s : List ℕ) (q e : ℕ) → Next (row m 0) s q e → e ≡ q
nothing m s q e h = sym (good-same _ _ h) ∙ add-zero q

widest_least : (m : Meaning) (k : ℕ) (v : List ℕ) (h t : ℕ) → m.align ≤ (lay_items m k v h t).widest
widest_least m zero v h t = omega arith
widest_least m (suc k) v h t =
    let x = m.lay (first_of (m.scan v) v) h t in
    let r = widest_least m k (rest_of (m.scan v) v) (h + m.size) x.end in
    omega arith

-- k of n items are left, from q on: their tails start at e, and w is the widest before them
pub record LayoutLeft (m : Meaning) (n : ℕ) (s : List ℕ) (p t k q e w : ℕ) : Type 0 where
  pub end : ℕ
  pub all : Next (row m n) s p end
  pub found : Next (row m k) s q end
  pub reached : e ≤ 2147483648
  pub least : m.align ≤ w
  pub told : (h : ℕ) → (g : ℕ) × (((laid m s n p h t).end ≡ (laid m s k q g e).end) × ((laid m s n p h t).widest ≡ max w (laid m s k q g e).widest))

pub layout_left : {m : Meaning} {n : ℕ} {s : List ℕ} {p t j k q e w : ℕ} → j ≡ k → LayoutLeft m n s p t j q e w → LayoutLeft m n s p t k q e w
layout_left {m} {n} {s} {p} {t} {j} {k} {q} {e} {w} f l = subst (λ z. LayoutLeft m n s p t z q e w) f l

pub layout_none : (m : Meaning) (n : ℕ) (s : List ℕ) (p t w : ℕ) → Askable (row m n) s p t → w ≡ m.align → LayoutLeft m n s p t n p t w
layout_none m n s p t w a e = record {
  end = a.next;
  all = a.found;
  found = a.found;
  reached = a.reached;
  least = omega arith;
  told = λ h. (h, (refl, (let l = widest_least m n (value_at (row m n) s p) h t in omega arith)));
}

module _ {m : Meaning} {n : ℕ} {s : List ℕ} {p t k q e w : ℕ} where
  pub layout_item : LayoutLeft m n s p t (suc k) q e w → Askable m s q e
  layout_item l = let x = found-more m s k q l.end l.found in record { next = x.0; found = x.1.0; reached = l.reached }

  pub layout_more : (l : LayoutLeft m n s p t (suc k) q e w) → Keeps m → Bytes s → (r f o v : ℕ) → Foretold m s q e f o → Next m s q r → v ≡ max w o → LayoutLeft m n s p t k r f v
  layout_more l keeps bytes r f o v fore next wide =
      let there : Next (row m k) s r l.end = sym (scan-more m s k q r next) ∙ l.found in
      record {
        end = l.end;
        all = l.all;
        found = there;
        reached = subst (λ z. z ≤ 2147483648) (fore 0).0 (keeps.onward (value_at m s q) 0 e (value-belongs m keeps s q bytes r next) l.reached).1;
        least = let c = l.least in omega arith;
        told = λ h.
            let x = l.told h in
            let g = x.0 in
            let is = lay-more m keeps s k q r l.end g e l.found next there in
            let at = fore g in
            let same : laid m s (suc k) q g e ≡ beside (m.lay (value_at m s q) g e) (laid m s k r (g + m.size) f) = is ∙ ap (λ z. beside (m.lay (value_at m s q) g e) (laid m s k r (g + m.size) z)) at.0 in
            let wider = x.1.1 ∙ ap (λ z. max w z.widest) same in
            let widest = at.1 in
            (g + m.size, (x.1.0 ∙ ap (λ z. z.end) same, omega arith));
      }

pub layout_all : {m : Meaning} {n : ℕ} {s : List ℕ} {p t q e w : ℕ} → LayoutLeft m n s p t 0 q e w → Foretold (row m n) s p t e w × Next (row m n) s p q
layout_all {m} {n} {s} {p} {t} {q} {e} {w} l = (
  λ h. let x = l.told h in let y = x.1.1 in let c = l.least in (x.1.0, omega arith),
  subst (Next (row m n) s p) (nothing m s q l.end l.found) l.all,
)

-- k of n items are left, from q on: heads go on at g and tails at e, in a buffer that was first
pub record FillLeft (m : Meaning) (n : ℕ) (s : List ℕ) (p : ℕ) (first : List ℕ) (h t k q : ℕ) (out : List ℕ) (g e : ℕ) : Type 0 where
  pub rest : Fillable (row m k) s q out g e
  pub all : Next (row m n) s p rest.next
  pub heads : List ℕ
  pub tails : List ℕ
  pub head : (laid m s n p h t).head ≡ heads ++ (laid m s k q g e).head
  pub tail : (laid m s n p h t).tail ≡ tails ++ (laid m s k q g e).tail
  pub end : (laid m s n p h t).end ≡ (laid m s k q g e).end
  pub is : out ≡ put (put first h heads) t tails
  pub head_at : g ≡ h + length heads
  pub tail_at : e ≡ t + length tails
  pub below : g + (row m k).size ≤ t
  pub long : length out ≡ length first

pub fill_left :
    {m : Meaning} {n : ℕ} {s : List ℕ} {p : ℕ} {first : List ℕ} {h t j k q : ℕ} {out : List ℕ} {g e : ℕ} → j ≡ k → FillLeft m n s p first h t j q out g e → FillLeft m n s p first h t k q out g e
fill_left {m} {n} {s} {p} {first} {h} {t} {j} {k} {q} {out} {g} {e} f l = subst (λ z. FillLeft m n s p first h t z q out g e) f l

pub fill_from :
    {m : Meaning} {n : ℕ} {s : List ℕ} {p : ℕ} {first : List ℕ} {h t k q : ℕ} {out : List ℕ} {f g e : ℕ} → f ≡ g → FillLeft m n s p first h t k q out f e → FillLeft m n s p first h t k q out g e
fill_from {m} {n} {s} {p} {first} {h} {t} {k} {q} {out} {f} {g} {e} i l = subst (λ z. FillLeft m n s p first h t k q out z e) i l

pub fill_none : (m : Meaning) (n : ℕ) (s : List ℕ) (p : ℕ) (out : List ℕ) (h t : ℕ) → Fillable (row m n) s p out h t → FillLeft m n s p out h t n p out h t
fill_none m n s p out h t f = record {
  rest = f;
  all = f.found;
  heads = [];
  tails = [];
  head = refl;
  tail = refl;
  end = refl;
  is = sym (put_nil (put out h []) t ∙ put_nil out h);
  head_at = omega arith;
  tail_at = omega arith;
  below = f.behind;
  long = refl;
}

module _ {m : Meaning} {n : ℕ} {s : List ℕ} {p : ℕ} {first : List ℕ} {h t k q : ℕ} {out : List ℕ} {g e : ℕ} where
  module _ (l : FillLeft m n s p first h t (suc k) q out g e) (law : Laws m) (bytes : Bytes s) where
    -- the item, and those behind it
    record Split (r : ℕ) : Type 0 where
      others : Next (row m k) s r l.rest.next
      same : laid m s (suc k) q g e ≡ beside (m.lay (value_at m s q) g e) (laid m s k r (g + m.size) (m.lay (value_at m s q) g e).end)
      on : e ≤ (m.lay (value_at m s q) g e).end
      room : (m.lay (value_at m s q) g e).end ≤ (laid m s (suc k) q g e).end
      size : (row m (suc k)).size ≡ m.size + (row m k).size

    split : (r : ℕ) → Next m s q r → Split r
    split r next =
        let f = l.rest in
        let there : Next (row m k) s r f.next = sym (scan-more m s k q r next) ∙ f.found in
        let same = lay-more m law.keeps s k q r f.next g e f.found next there in
        let starts = f.starts in
        let capped = f.capped in
        let behind = f.behind in
        let x = law.keeps.onward (value_at m s q) g e (value-belongs m law.keeps s q bytes r next) (omega arith) in
        let y = (row_keeps m k law).onward (value_at (row m k) s r) (g + m.size) (m.lay (value_at m s q) g e).end (value-belongs (row m k) (row_keeps m k law) s r bytes f.next there) x.1 in
        record {
          others = there;
          same = same;
          on = x.0;
          room = subst (λ z. (m.lay (value_at m s q) g e).end ≤ z.end) (sym same) y.0;
          size = stop-more k m.size (omega arith);
        }

    item_at : (r : ℕ) → Next m s q r → Fillable m s q out g e
    item_at r next =
        let f = l.rest in
        let z = split r next in
        let size = z.size in
        let behind = f.behind in
        let room = f.room in
        let inner = z.room in
        record { next = r; found = next; aligned = f.aligned; behind = omega arith; starts = f.starts; room = omega arith; capped = f.capped }

    pub fill_item : Fillable m s q out g e
    fill_item = let x = found-more m s k q l.rest.next l.rest.found in item_at x.0 x.1.0

    pub fill_more :
        (r : ℕ) (new : List ℕ) (f z : ℕ) → Next m s q r → new ≡ filled out g e (m.lay (value_at m s q) g e) → f ≡ (m.lay (value_at m s q) g e).end → z ≡ g + m.size → length new ≡ length out →
        FillLeft m n s p first h t k r new z f
    fill_more r new f z next put-here ends size long =
        let x = m.lay (value_at m s q) g e in
        let y = split r next in
        let placed = value_placed m law.keeps s q bytes out g e (item_at r next) in
        let head_long = law.keeps.head_long (value_at m s q) g e placed in
        let tail_long = law.keeps.tail_long (value_at m s q) g e placed in
        let others = laid m s k r z f in
        let same : laid m s (suc k) q g e ≡ beside x others = y.same ∙ (ap (λ i. beside x (laid m s k r i x.end)) (sym size) ∙ ap (λ i. beside x (laid m s k r z i)) (sym ends)) in
        let o = l.rest in
        let starts = o.starts in
        let capped = o.capped in
        let behind = o.behind in
        let room = o.room in
        let inner = y.room in
        let on = y.on in
        let more = y.size in
        let last : (laid m s (suc k) q g e).end ≡ others.end = ap (λ i. i.end) same in
        let below = l.below in
        let all-long = l.long in
        let heads-long = length-append l.heads x.head in
        let tails-long = length-append l.tails x.tail in
        let head_at = l.head_at in
        let tail_at = l.tail_at in
        record {
          rest = record {
            next = o.next;
            found = y.others;
            aligned = ap (λ i. i % m.align) size ∙ mod_sum m.align g m.size o.aligned law.keeps.whole;
            behind = omega arith;
            starts = omega arith;
            room = omega arith;
            capped = omega arith;
          };
          all = l.all;
          heads = l.heads ++ x.head;
          tails = l.tails ++ x.tail;
          head = l.head ∙ (ap (λ i. l.heads ++ i.head) same ∙ sym (append_assoc l.heads x.head others.head));
          tail = l.tail ∙ (ap (λ i. l.tails ++ i.tail) same ∙ sym (append_assoc l.tails x.tail others.tail));
          end = l.end ∙ last;
          is = put-here ∙ (ap (λ i. put (put i g x.head) e x.tail) l.is ∙ put-beside first h t g e l.heads l.tails x.head x.tail l.head_at l.tail_at (omega arith) (omega arith));
          head_at = omega arith;
          tail_at = omega arith;
          below = omega arith;
          long = long ∙ l.long;
        }
