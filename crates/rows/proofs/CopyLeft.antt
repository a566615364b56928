-- A row that is copied item by item: what is put, and what is left to put. Assumes nothing.
use Rattle.std.proofs.Common.{◌≡◌, ℕ, ◌+◌, ◌-◌, ◌<◌, ◌≤◌, List, [], ◌++◌, length, sym, ap, ◌∙◌, append_assoc, append-nil, arith}
use native.Mathlib.Nat.{sub-zero}
use Rattle.std.proofs.lemmas.List.{length-append}
use Rattle.format.specs.Places.{put}
use Rattle.format.specs.Answers.{good, both}
use Rattle.format.specs.Meaning.{Meaning, Keeps}
use Rattle.format.specs.Items.{read_items, row}
use Rattle.format.proofs.AnswerLaws.{both_parts, good-same}
use Rattle.format.proofs.PutLaws.{put_nil, put-put}
use Rattle.kind.specs.Asked.{Copyable}
use Rattle.rows.proofs.ReadLeft.{head, head-none, head-more, head-seated, left_suc, left_zero}

-- of n items from p on, i are copied, and out is the first buffer with their sheets put there up to e
pub record CopyLeft (m : Meaning) (n : ℕ) (a : List ℕ) (p : ℕ) (first : List ℕ) (to i : ℕ) (out : List ℕ) (e : ℕ) : Type 0 where
  pub start : to ≤ length first
  pub done : List ℕ
  pub rest : List ℕ
  pub whole : read_items m n a p ≡ good (done ++ rest)
  pub left : read_items m (n - i) a (head m p i) ≡ good rest
  pub is : out ≡ put first to done
  pub end : e ≡ to + length done
  pub room : e + length rest ≤ length out

pub copy_none : (m : Meaning) (n : ℕ) (a : List ℕ) (p : ℕ) (out : List ℕ) (to : ℕ) → Copyable (row m n) a p out to → CopyLeft m n a p out to 0 out to
copy_none m n a p out to c = record {
  start = let r = c.room in omega arith;
  done = [];
  rest = c.sheet;
  whole = c.read;
  left = ap (λ z. read_items m z a (head m p 0)) (sub-zero n) ∙ (ap (read_items m n a) (head-none m p) ∙ c.read);
  is = sym (put_nil out to);
  end = omega arith;
  room = c.room;
}

module _ {m : Meaning} {n : ℕ} {a : List ℕ} {p : ℕ} {first : List ℕ} {to i : ℕ} {out : List ℕ} {e : ℕ} (l : CopyLeft m n a p first to i out e) where
  module _ (h : i < n) (q : ℕ) (f : q ≡ head m p i) where
    here : both (m.reading a q) (λ s. both (read_items m (n - (i + 1)) a (head m p (i + 1))) (λ r. good (s ++ r))) ≡ good l.rest
    here =
        ap (λ z. both (m.reading a z) (λ s. both (read_items m (n - (i + 1)) a (head m p (i + 1))) (λ r. good (s ++ r)))) f ∙
        (ap (λ z. both (m.reading a (head m p i)) (λ s. both (read_items m (n - (i + 1)) a z) (λ r. good (s ++ r)))) (head-more m p i) ∙
        (sym (ap (λ z. read_items m z a (head m p i)) (left_suc n i h)) ∙ l.left))

    next : (s : List ℕ) × ((m.reading a q ≡ good s) × (both (read_items m (n - (i + 1)) a (head m p (i + 1))) (λ r. good (s ++ r)) ≡ good l.rest))
    next = both_parts (m.reading a q) _ l.rest here

    others : (r : List ℕ) × ((read_items m (n - (i + 1)) a (head m p (i + 1)) ≡ good r) × (good (next.0 ++ r) ≡ good l.rest))
    others = both_parts (read_items m (n - (i + 1)) a (head m p (i + 1))) _ l.rest next.1.1

    joined : l.rest ≡ next.0 ++ others.0
    joined = sym (good-same _ _ others.1.1)

    pub copy_item : (k : Keeps m) → Copyable (row m n) a p first to → Copyable m a q out e
    copy_item k c = record {
      seated = head-seated m n c.seated k i q h f;
      sheet = next.0;
      read = next.1.0;
      room = let r = l.room in let j = ap length joined in let g = length-append next.0 others.0 in omega arith;
    }

    pub copy_more : (new : List ℕ) (z : ℕ) → ((s : List ℕ) → m.reading a q ≡ good s → (new ≡ put out e s) × (z ≡ e + length s)) → length new ≡ length out → CopyLeft m n a p first to (i + 1) new z
    copy_more new z ensures long =
        let s = next.0 in
        let put-here = ensures s next.1.0 in
        let ends = put-here.1 in
        let d = length-append l.done s in
        let v = length-append s others.0 in
        let j = ap length joined in
        let r = l.room in
        let w = l.end in
        record {
          start = l.start;
          done = l.done ++ s;
          rest = others.0;
          whole = l.whole ∙ ap good (ap (λ z. l.done ++ z) joined ∙ sym (append_assoc l.done s others.0));
          left = others.1.0;
          is = put-here.0 ∙ (ap (λ z. put z e s) l.is ∙ put-put first to l.done s e l.start l.end);
          end = omega arith;
          room = omega arith;
        }

  pub copy_all : n ≤ i → (s : List ℕ) → read_items m n a p ≡ good s → (out ≡ put first to s) × (e ≡ to + length s)
  copy_all h s r =
      let nil : [] ≡ l.rest = good-same _ _ (sym (ap (λ z. read_items m z a (head m p i)) (left_zero n i h)) ∙ l.left) in
      let same : l.done ≡ s = good-same _ _ (ap good (sym (append-nil l.done) ∙ ap (λ z. l.done ++ z) nil) ∙ (sym l.whole ∙ r)) in
      (l.is ∙ ap (put first to) same, l.end ∙ ap (λ z. to + length z) same)
