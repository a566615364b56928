-- Laws of what stands behind a mark: where it ends, and what is kept of it. Assumes nothing.
use Rattle.std.proofs.Common.{◌≡◌, ℕ, ◌+◌, ◌≤◌, List, ◌++◌, length, take, drop, sym, ap, ◌∙◌, arith}
use Rattle.std.proofs.lemmas.List.{length-append, length-take-le, length-drop, take_all, take-take, take-append-le, drop_at}
use Rattle.format.specs.Places.{Bytes}
use Rattle.format.specs.Answers.{good, both, shifted, inside}
use Rattle.format.specs.Sheets.{marked}
use Rattle.format.specs.Meaning.{Meaning, Belongs, Keeps}
use Rattle.format.specs.Links.{behind}
use Rattle.format.proofs.ByteLists.{bytes-append, bytes_drop, take_sum_append}
use Rattle.format.proofs.AnswerLaws.{both-good, both_parts, inside-good, shifted-good, good-same}
use Rattle.format.proofs.SheetLaws.{marked-end, marked_front, marked_from}

-- a mark with n bytes of its own, and what m scans behind it
module _ (mark : List ℕ) (n : ℕ) (m : Meaning) where
  pub record Fronted (v : List ℕ) (e : ℕ) : Type 0 where
    pub rest : ℕ
    pub front : take 2 v ≡ mark
    pub room : 2 + n ≤ length v
    pub found : m.scan (drop (2 + n) v) ≡ good rest
    pub sum : e ≡ 2 + n + rest

  pub fronted : (v : List ℕ) (e : ℕ) → behind mark n m v ≡ good e → Fronted v e
  fronted v e h =
      let x = both_parts (marked mark n v) _ e h in
      let ends = marked-end mark n v x.0 x.1.0 in
      let inner = sym (both-good (marked mark n v) (2 + n) _ (x.1.0 ∙ ap good ends.0)) ∙ h in
      let y = both_parts (m.scan (drop (2 + n) v)) _ e (shifted-good (2 + n) _ e (inside-good _ e inner)) in
      record { rest = y.0; front = marked_front mark n v x.0 x.1.0; room = ends.1; found = y.1.0; sum = sym (good-same _ _ y.1.1) }

  behind-from : (f x : List ℕ) (r : ℕ) → take 2 f ≡ mark → length f ≡ 2 + n → m.scan x ≡ good r → behind mark n m (f ++ x) ≡ good (2 + n + r)
  behind-from f x r front long found =
      let l = length-append f x in
      both-good (marked mark n (f ++ x)) (2 + n) _ (marked_from mark n (f ++ x) (take-append-le 2 f x (omega arith) ∙ front) (omega arith)) ∙
      ap (λ z. inside (shifted (2 + n) (both z (λ r. good (2 + n + r))))) (ap m.scan (drop_at f x (2 + n) long) ∙ found)

  -- the front of a sheet with a mark
  pub front_of : (v : List ℕ) → take 2 v ≡ mark → 2 + n ≤ length v → (take 2 (take (2 + n) v) ≡ mark) × (length (take (2 + n) v) ≡ 2 + n)
  front_of v f l = (take-take 2 (2 + n) v (omega arith) ∙ f, length-take-le (2 + n) v l)

  pub behind-ends : Keeps m → (v : List ℕ) (e : ℕ) → behind mark n m v ≡ good e → (e ≤ length v) × ((t : List ℕ) → behind mark n m (take e v ++ t) ≡ good e)
  behind-ends k v e h =
      let s = fronted v e h in
      let f = front_of v s.front s.room in
      let r = s.rest in
      let w = drop (2 + n) v in
      let ends = k.ends w r s.found in
      let l = length-drop (2 + n) v in
      let inner = ends.0 in
      let room = s.room in
      let u = s.sum in (
        omega arith,
        λ t.
            ap (behind mark n m) (ap (λ z. take z v ++ t) u ∙ take_sum_append (2 + n) r v t) ∙
            (behind-from (take (2 + n) v) (take r w ++ t) r f.0 f.1 (ends.1 t) ∙ ap good (sym u)),
      )

  -- a whole sheet is a front and the whole sheet of what it holds
  abbrev pub Whole : List ℕ → Type 0
  Whole v = Bytes v × (behind mark n m v ≡ good (length v))

  pub whole_rest : (v : List ℕ) → Whole v → Belongs m (drop (2 + n) v)
  whole_rest v b =
      let s = fronted v (length v) b.1 in
      let l = length-drop (2 + n) v in
      let u = s.sum in
      let long : s.rest ≡ length (drop (2 + n) v) = omega arith in
      (bytes_drop (2 + n) v b.0, s.found ∙ ap good long)

  pub whole_from : (f x : List ℕ) → Bytes f → take 2 f ≡ mark → length f ≡ 2 + n → Belongs m x → Whole (f ++ x)
  whole_from f x bytes front long b =
      let l : 2 + n + length x ≡ length (f ++ x) = ap (λ z. z + length x) (sym long) ∙ sym (length-append f x) in
      (bytes-append f x bytes b.0, behind-from f x (length x) front long b.1 ∙ ap good l)

-- a mark and nothing else before what m keeps
module _ (mark : List ℕ) (m : Meaning) (bytes : Bytes mark) (two : length mark ≡ 2) (k : Keeps m) (v : List ℕ) (b : Whole mark 0 m v) where
  pub marked-kept_belongs : Whole mark 0 m (mark ++ m.kept (drop 2 v))
  marked-kept_belongs = whole_from mark 0 m mark (m.kept (drop 2 v)) bytes (take_all 2 mark (omega arith)) two (k.kept_belongs _ (whole_rest mark 0 m v b))

  pub marked-kept_kept : mark ++ m.kept (drop 2 (mark ++ m.kept (drop 2 v))) ≡ mark ++ m.kept (drop 2 v)
  marked-kept_kept = ap (λ z. mark ++ z) (ap m.kept (drop_at mark (m.kept (drop 2 v)) 2 two) ∙ k.kept_kept _ (whole_rest mark 0 m v b))
