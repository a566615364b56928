-- The values of a row, one after another, by their places in a sheet. Assumes nothing.
use Rattle.std.proofs.Common.{◌≡◌, ℕ, suc, ◌+◌, List, [], ◌++◌, take, drop, sym, refl, ap, ◌∙◌, subst, ap₂, append-nil, arith}
use Rattle.std.proofs.lemmas.List.{length-take-le, take_at, drop_at, drop-drop}
use Rattle.format.specs.Places.{Bytes}
use Rattle.format.specs.Answers.{Answer, Fault, good, bad, both, shifted}
use Rattle.format.specs.Sheets.{at_place}
use Rattle.format.specs.Meaning.{Meaning, Belongs, Placed, Keeps}
use Rattle.format.specs.Items.{first_of, rest_of, beside, scan_items, lay_items, row}
use Rattle.format.proofs.ByteLists.{bytes_take, bytes_drop, take_sum}
use Rattle.format.proofs.AnswerLaws.{at_place-end, at_place_then_bad}
use Rattle.kind.specs.Asked.{value_at, Next, Fillable}

-- what is scanned e bytes on from a front, by the front's place
pub joined : (x : Answer ℕ) (p e : ℕ) → shifted p (both (shifted e (both x (λ r. good (e + r)))) (λ z. good (p + z))) ≡ shifted (p + e) (both x (λ r. good (p + e + r)))
joined (good r) p e = let k : p + (e + r) ≡ p + e + r = omega arith in ap good k
joined (bad f) p e = let k : p + (e + f.place) ≡ p + e + f.place = omega arith in ap (λ z. bad (record { number = f.number; place = z; depth = f.depth })) k

module _ (m : Meaning) (s : List ℕ) (n p : ℕ) where
  -- one item more: its fault is the row's, and behind it the others are scanned
  pub scan-more-bad : (f : Fault) → at_place m.scan s p ≡ bad f → at_place (scan_items m (suc n)) s p ≡ bad f
  scan-more-bad f h = at_place_then_bad m.scan (λ v e. shifted e (both (scan_items m n (drop e v)) (λ r. good (e + r)))) s p f h

  pub scan-more : (q : ℕ) → Next m s p q → at_place (scan_items m (suc n)) s p ≡ at_place (scan_items m n) s q
  scan-more q h =
      let x = at_place-end m.scan s p q h in
      let e = x.0 in
      ap (λ z. shifted p (both (both z (λ e. shifted e (both (scan_items m n (drop e (drop p s))) (λ r. good (e + r))))) (λ z. good (p + z)))) x.1.0 ∙
      (joined (scan_items m n (drop e (drop p s))) p e ∙
      (ap (λ z. shifted (p + e) (both (scan_items m n z) (λ r. good (p + e + r)))) (drop-drop e p s) ∙ ap (at_place (scan_items m n) s) (sym x.1.1)))

  -- the first item of a row that is found, and the others
  pub found-more : (q : ℕ) → Next (row m (suc n)) s p q → (e : ℕ) × (Next m s p e × Next (row m n) s e q)
  found-more q h = go (at_place m.scan s p) refl where
    go : (x : Answer ℕ) → at_place m.scan s p ≡ x → (e : ℕ) × (Next m s p e × Next (row m n) s e q)
    go (good e) k = (e, (k, sym (scan-more e k) ∙ h))
    go (bad f) k = let b = scan-more-bad f k in let z : ◌≡◌ {A = ℕ} 0 1 = cc in absurd (omega arith)

-- a value that is found belongs to its meaning, and may be filled in where the code may fill it
module _ (m : Meaning) (k : Keeps m) (s : List ℕ) (p : ℕ) (b : Bytes s) where
  pub value-belongs : (q : ℕ) → Next m s p q → Belongs m (value_at m s p)
  value-belongs q h =
      let x = at_place-end m.scan s p q h in
      let e = x.0 in
      let v = drop p s in
      let ends = k.ends v e x.1.0 in
      let l = length-take-le e v ends.0 in
      subst (λ z. Belongs m (first_of z v)) (sym x.1.0) (bytes_take e v (bytes_drop p s b), ap m.scan (sym (append-nil (take e v))) ∙ (ends.1 [] ∙ ap good (sym l)))

  pub value_placed : (out : List ℕ) (h t : ℕ) → Fillable m s p out h t → Placed m (value_at m s p) h t
  value_placed out h t f = record {
    belongs = value-belongs f.next f.found;
    aligned = f.aligned;
    behind = f.behind;
    reached = let x = f.starts in let y = f.capped in omega arith;
    fits = let x = f.room in let y = f.capped in omega arith;
  }

-- one item more: its head and tail, and behind them those of the others
pub lay-more :
    (m : Meaning) (k : Keeps m) (s : List ℕ) (n p e q h t : ℕ) → Next (row m (suc n)) s p q → Next m s p e → Next (row m n) s e q →
    lay_items m (suc n) (value_at (row m (suc n)) s p) h t ≡
    beside (m.lay (value_at m s p) h t) (lay_items m n (value_at (row m n) s e) (h + m.size) (m.lay (value_at m s p) h t).end)
lay-more m k s n p e q h t all here there =
    let x = at_place-end m.scan s p e here in
    let y = at_place-end (scan_items m n) s e q there in
    let z = at_place-end (scan_items m (suc n)) s p q all in
    let v = drop p s in
    let own = x.0 in
    let rest = y.0 in
    let sum : z.0 ≡ own + rest = let a = x.1.1 in let b = y.1.1 in let c = z.1.1 in omega arith in
    let one = take own v in
    let others = take rest (drop own v) in
    let ends = k.ends v own x.1.0 in
    let long = length-take-le own v ends.0 in
    let whole : value_at (row m (suc n)) s p ≡ one ++ others = ap (λ z. first_of z v) z.1.0 ∙ (ap (λ z. take z v) sum ∙ take_sum own rest v) in
    let scanned : m.scan (one ++ others) ≡ good own = ends.1 others in
    let first : first_of (m.scan (one ++ others)) (one ++ others) ≡ value_at m s p = ap (λ z. first_of z (one ++ others)) scanned ∙ (take_at one others own long ∙ sym (ap (λ z. first_of z v) x.1.0)) in
    let front : drop e s ≡ drop own v = ap (λ z. drop z s) x.1.1 ∙ sym (drop-drop own p s) in
    let last : rest_of (m.scan (one ++ others)) (one ++ others) ≡ value_at (row m n) s e =
    ap (λ z. rest_of z (one ++ others)) scanned ∙ (drop_at one others own long ∙ sym (ap (λ z. first_of z (drop e s)) y.1.0 ∙ ap (take rest) front)) in
    ap (λ z. lay_items m (suc n) z h t) whole ∙
    ap₂ (λ a b. beside (m.lay a h t) (lay_items m n b (h + m.size) (m.lay a h t).end)) first last
