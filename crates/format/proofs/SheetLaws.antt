-- Laws of the words of a sheet: in which case each answer comes. Assumes nothing.
use Rattle.std.proofs.Common.{◌≡◌, ℕ, ◌+◌, ◌-◌, ◌<◌, ◌≤◌, Bool, true, false, ◌&&◌, eqb, leb, ◌⊎◌, List, [], ◌∷◌, length, get_or, take, drop, sym, refl, ap, ◌∙◌, ap₂, ⊎_elim, arith, length-drop}
use Rattle.std.proofs.lemmas.List.{drop-drop, length-take-le}
use Rattle.std.proofs.lemmas.Bool.{le-leb, lt-leb, leb-true, eqb-true, eq-eqb, ne_eqb, false≢true, and_parts, and_from, and_left, and_right}
use Rattle.format.specs.Answers.{Answer, Fault, good, bad, fault, both, unless, shifted}
use Rattle.format.specs.Orders.{number}
use Rattle.format.specs.Recogniser.{is_text}
use Rattle.format.specs.Places.{part}
use Rattle.format.specs.Sheets.{at_place, number_read, text_read, any, same, marked, number_of, text_of, scan_number, scan_text, text_behind}
use Rattle.format.proofs.AnswerLaws.{unless-true, unless-false, unless_parts, both-good, both-bad, fault-further, at_place-good, at_place-fault, at_place_then_bad, read-good, read-bad}

-- the first two bytes against a mark
same-two : (v mark : List ℕ) → 2 ≤ length v → length mark ≡ 2 → same (take 2 v) mark ≡ (eqb (get_or v 0 0) (get_or mark 0 0) && (eqb (get_or v 1 0) (get_or mark 1 0) && true))
same-two [] mark h e = absurd (omega arith)
same-two (a ∷ []) mark h e = absurd (omega arith)
same-two (a ∷ b ∷ v) [] h e = absurd (omega arith)
same-two (a ∷ b ∷ v) (x ∷ []) h e = absurd (omega arith)
same-two (a ∷ b ∷ v) (x ∷ y ∷ []) h e = refl
same-two (a ∷ b ∷ v) (x ∷ y ∷ z ∷ zs) h e = absurd (omega arith)

module _ (mark : List ℕ) (n : ℕ) (v : List ℕ) where
  pub marked_short : length v < 2 → marked mark n v ≡ fault 12 0
  marked_short h = unless-false (leb 2 (length v)) _ _ (lt-leb 2 (length v) h)

  pub marked_wrong : 2 ≤ length v → length mark ≡ 2 → ((get_or v 0 0 ≡ get_or mark 0 0 → ⊥) ⊎ (get_or v 1 0 ≡ get_or mark 1 0 → ⊥)) → marked mark n v ≡ fault 11 0
  marked_wrong h l ne =
      let test : same (take 2 v) mark ≡ false =
      same-two v mark h l ∙ ⊎_elim (λ x. and_left _ _ (ne_eqb _ _ x)) (λ x. and_right _ _ (and_left _ _ (ne_eqb _ _ x))) ne in
      unless-true (leb 2 (length v)) _ _ (le-leb 2 (length v) h) ∙ unless-false (same (take 2 v) mark) _ _ test

  past_mark : 2 ≤ length v → length mark ≡ 2 → get_or v 0 0 ≡ get_or mark 0 0 → get_or v 1 0 ≡ get_or mark 1 0 → marked mark n v ≡ unless (leb (2 + n) (length v)) (fault 12 0) (good (2 + n))
  past_mark h l x y =
      let test : same (take 2 v) mark ≡ true = same-two v mark h l ∙ and_from _ _ (eq-eqb _ _ x) (and_from _ _ (eq-eqb _ _ y) refl) in
      unless-true (leb 2 (length v)) _ _ (le-leb 2 (length v) h) ∙ unless-true (same (take 2 v) mark) _ _ test

  pub marked-cut : 2 ≤ length v → length mark ≡ 2 → get_or v 0 0 ≡ get_or mark 0 0 → get_or v 1 0 ≡ get_or mark 1 0 → length v < 2 + n → marked mark n v ≡ fault 12 0
  marked-cut h l x y c = past_mark h l x y ∙ unless-false (leb (2 + n) (length v)) _ _ (lt-leb (2 + n) (length v) c)

  pub marked-good : 2 ≤ length v → length mark ≡ 2 → get_or v 0 0 ≡ get_or mark 0 0 → get_or v 1 0 ≡ get_or mark 1 0 → 2 + n ≤ length v → marked mark n v ≡ good (2 + n)
  marked-good h l x y c = past_mark h l x y ∙ unless-true (leb (2 + n) (length v)) _ _ (le-leb (2 + n) (length v) c)

  -- and back: where a mark with n bytes of its own ends, all of it is there
  pub marked-end : (e : ℕ) → marked mark n v ≡ good e → (e ≡ 2 + n) × (2 + n ≤ length v)
  marked-end e h = first (leb 2 (length v)) refl where
    Ends : Type 0
    Ends = (e ≡ 2 + n) × (2 + n ≤ length v)

    third : (b : Bool) → leb (2 + n) (length v) ≡ b → unless b (fault 12 0) (good (2 + n)) ≡ good e → Ends
    third true t k = let z : 2 + n ≡ e = cc in (sym z, leb-true (2 + n) (length v) t)
    third false t k = let z : ◌≡◌ {A = ℕ} 0 1 = cc in absurd (omega arith)

    second : (b : Bool) → same (take 2 v) mark ≡ b → unless b (fault 11 0) (unless (leb (2 + n) (length v)) (fault 12 0) (good (2 + n))) ≡ good e → Ends
    second true t k = third (leb (2 + n) (length v)) refl k
    second false t k = let z : ◌≡◌ {A = ℕ} 0 1 = cc in absurd (omega arith)

    first : (b : Bool) → leb 2 (length v) ≡ b → Ends
    first true t = second (same (take 2 v) mark) refl (sym (unless-true (leb 2 (length v)) _ _ t) ∙ h)
    first false t = let k = sym (unless-false (leb 2 (length v)) (fault 12 0) _ t) ∙ h in let z : ◌≡◌ {A = ℕ} 0 1 = cc in absurd (omega arith)

-- the same by the two bytes of the mark
same_true : (xs ys : List ℕ) → same xs ys ≡ true → xs ≡ ys
same_true [] [] h = refl
same_true [] (y ∷ ys) h = absurd (false≢true h)
same_true (x ∷ xs) [] h = absurd (false≢true h)
same_true (x ∷ xs) (y ∷ ys) h = let p = and_parts (eqb x y) (same xs ys) h in ap₂ ◌∷◌ (eqb-true x y p.0) (same_true xs ys p.1)

same_self : (xs : List ℕ) → same xs xs ≡ true
same_self [] = refl
same_self (x ∷ xs) = and_from _ _ (eq-eqb x x refl) (same_self xs)

module _ (mark : List ℕ) (n : ℕ) (v : List ℕ) where
  pub marked_front : (e : ℕ) → marked mark n v ≡ good e → take 2 v ≡ mark
  marked_front e h = same_true (take 2 v) mark (unless_parts (same (take 2 v) mark) _ _ e (unless_parts (leb 2 (length v)) _ _ e h).1).0

  pub marked_from : take 2 v ≡ mark → 2 + n ≤ length v → marked mark n v ≡ good (2 + n)
  marked_from h l =
      unless-true (leb 2 (length v)) _ _ (le-leb 2 (length v) (omega arith)) ∙
      (unless-true (same (take 2 v) mark) _ _ (ap (λ z. same z mark) h ∙ same_self mark) ∙ unless-true (leb (2 + n) (length v)) _ _ (le-leb (2 + n) (length v) l))

-- where a number and a text end
module _ (mark v : List ℕ) (e : ℕ) where
  pub scan_number-end : (w : ℕ) (valid : ℕ → Bool) → scan_number mark w valid v ≡ good e → (e ≡ 2 + w) × (2 + w ≤ length v) × (valid (number_of w v) ≡ true)
  scan_number-end w valid h = go (marked mark w v) refl (valid (number_of w v)) refl where
    go : (x : Answer ℕ) → marked mark w v ≡ x → (b : Bool) → valid (number_of w v) ≡ b → (e ≡ 2 + w) × (2 + w ≤ length v) × (valid (number_of w v) ≡ true)
    go (bad f) k b t = let m = sym (both-bad (marked mark w v) f (λ e. unless (valid (number_of w v)) (fault 14 0) (good e)) k) ∙ h in let z : ◌≡◌ {A = ℕ} 0 1 = cc in absurd (omega arith)
    go (good q) k false t =
        let m = sym (both-good (marked mark w v) q (λ e. unless (valid (number_of w v)) (fault 14 0) (good e)) k ∙ unless-false (valid (number_of w v)) _ _ t) ∙ h in
        let z : ◌≡◌ {A = ℕ} 0 1 = cc in absurd (omega arith)
    go (good q) k true t =
        let m = sym (both-good (marked mark w v) q (λ e. unless (valid (number_of w v)) (fault 14 0) (good e)) k ∙ unless-true (valid (number_of w v)) _ _ t) ∙ h in
        let same_end : e ≡ q = cc in
        let r = marked-end mark w v q k in
        (same_end ∙ r.0, r.1, t)

  pub scan_text-end : scan_text mark v ≡ good e → (e ≡ 6 + number_of 4 v) × (6 + number_of 4 v ≤ length v) × (is_text (text_of v) ≡ true)
  scan_text-end h = go (marked mark 4 v) refl where
    n : ℕ
    n = number_of 4 v

    Ends : Type 0
    Ends = (e ≡ 6 + n) × (6 + n ≤ length v) × (is_text (text_of v) ≡ true)

    last : (b : Bool) → 6 + n ≤ length v → is_text (text_of v) ≡ b → unless b (fault 13 0) (good (6 + n)) ≡ good e → Ends
    last true l t k = let same_end : e ≡ 6 + n = cc in (same_end, l, t)
    last false l t k = let z : ◌≡◌ {A = ℕ} 0 1 = cc in absurd (omega arith)

    long : (b : Bool) → leb (6 + n) (length v) ≡ b → unless b (fault 12 0) (unless (is_text (text_of v)) (fault 13 0) (good (6 + n))) ≡ good e → Ends
    long true t k = last (is_text (text_of v)) (leb-true (6 + n) (length v) t) refl k
    long false t k = let z : ◌≡◌ {A = ℕ} 0 1 = cc in absurd (omega arith)

    go : (x : Answer ℕ) → marked mark 4 v ≡ x → Ends
    go (bad f) k = let m = sym (both-bad (marked mark 4 v) f _ k) ∙ h in let z : ◌≡◌ {A = ℕ} 0 1 = cc in absurd (omega arith)
    go (good q) k =
        let six = (marked-end mark 4 v q k).0 in
        long (leb (6 + n) (length v)) refl (sym (both-good (marked mark 4 v) 6 _ (k ∙ ap good six)) ∙ h)

-- an unchecked number is scanned as its mark is
pub scan_number-any : (mark : List ℕ) (w : ℕ) (v : List ℕ) → scan_number mark w any v ≡ marked mark w v
scan_number-any mark w v = same_answer (marked mark w v) where
  same_answer : (x : Answer ℕ) → both x good ≡ x
  same_answer (good e) = refl
  same_answer (bad f) = refl

-- a number by its place: what it is once the mark before it is read
checked : (x : Answer ℕ) (b : Bool) (n p : ℕ) → both (shifted p (both (both x (λ e. unless b (fault 14 0) (good e))) (λ e. good (p + e)))) (λ _. good n) ≡ both (shifted p (both x (λ e. good (p + e)))) (λ _. unless b (fault 14 p) (good n))
checked (good e) true n p = refl
checked (good e) false n p = fault-further 14 p p refl
checked (bad f) b n p = refl

module _ (mark : List ℕ) (w : ℕ) (s : List ℕ) (p : ℕ) where
  pub number_of_is : number_of w (drop p s) ≡ number (part (p + 2) w s)
  number_of_is = ap (λ z. number (take w z)) (drop-drop 2 p s)

  -- an unchecked number is the one behind the mark, and a checked one is that or 14
  pub number_read-any : number_read mark w any s p ≡ both (at_place (marked mark w) s p) (λ _. good (number (part (p + 2) w s)))
  number_read-any = checked (marked mark w (drop p s)) true (number_of w (drop p s)) p ∙ ap (λ n. both (at_place (marked mark w) s p) (λ _. good n)) number_of_is

  pub number_read_checked : (valid : ℕ → Bool) → number_read mark w valid s p ≡ both (number_read mark w any s p) (λ n. unless (valid n) (fault 14 p) (good n))
  number_read_checked valid =
      checked (marked mark w (drop p s)) (valid n) n p ∙ (then (at_place (marked mark w) s p) ∙ ap (λ z. both z (λ n. unless (valid n) (fault 14 p) (good n))) (sym (checked (marked mark w (drop p s)) true n p))) where
        n : ℕ
        n = number_of w (drop p s)

        then : (x : Answer ℕ) → both x (λ _. unless (valid n) (fault 14 p) (good n)) ≡ both (both x (λ _. good n)) (λ n. unless (valid n) (fault 14 p) (good n))
        then (good e) = refl
        then (bad f) = refl

  -- what a number that was read says of the sheet
  pub number_read-end : (valid : ℕ → Bool) (n : ℕ) → number_read mark w valid s p ≡ good n → (at_place (scan_number mark w valid) s p ≡ good (p + (2 + w))) × (p + (2 + w) ≤ length s) × (number_of w (drop p s) ≡ n)
  number_read-end valid n h =
      let r = read-good (scan_number mark w valid) s p (number_of w (drop p s)) n h in
      let ends = scan_number-end mark (drop p s) r.0 w valid r.1.0 in
      let l = length-drop p s in
      (r.1.1.0 ∙ ap (λ z. good (p + z)) ends.0, omega (arith, ends.1), r.1.1.1)

-- a text by its place: what it is once its length is read
module _ (mark : List ℕ) (s : List ℕ) (p : ℕ) where
  pub text_read-bad : (e : Fault) → number_read mark 4 any s p ≡ bad e → text_read mark s p ≡ bad e
  text_read-bad e h =
      let mark-bad : at_place (marked mark 4) s p ≡ bad e =
      ap (λ z. shifted p (both z (λ e. good (p + e)))) (sym (scan_number-any mark 4 (drop p s))) ∙ read-bad (scan_number mark 4 any) s p (number_of 4 (drop p s)) e h in
      both-bad (at_place (scan_text mark) s p) e (λ _. good (text_of (drop p s))) (at_place_then_bad (marked mark 4) text_behind s p e mark-bad)

  -- where a text that was read ends
  pub text_read-end : (bs : List ℕ) → text_read mark s p ≡ good bs → (at_place (scan_text mark) s p ≡ good (p + (6 + length bs))) × (text_of (drop p s) ≡ bs)
  text_read-end bs h =
      let r = read-good (scan_text mark) s p (text_of (drop p s)) bs h in
      let ends = scan_text-end mark (drop p s) r.0 r.1.0 in
      let l : length bs ≡ number_of 4 (drop p s) =
      ap length (sym r.1.1.1) ∙ length-take-le (number_of 4 (drop p s)) (drop 6 (drop p s)) (let k = length-drop 6 (drop p s) in omega (arith, ends.1)) in
      (r.1.1.0 ∙ ap (λ z. good (p + z)) (ends.0 ∙ ap (λ z. 6 + z) (sym l)), r.1.1.1)

  module _ (n : ℕ) (h : number_read mark 4 any s p ≡ good n) where
    there : (marked mark 4 (drop p s) ≡ good 6) × (p + 6 ≤ length s) × (n ≡ number_of 4 (drop p s))
    there =
        let r = number_read-end mark 4 s p any n h in
        let e = read-good (scan_number mark 4 any) s p (number_of 4 (drop p s)) n h in
        let ends = scan_number-end mark (drop p s) e.0 4 any e.1.0 in
        (sym (scan_number-any mark 4 (drop p s)) ∙ (e.1.0 ∙ ap good ends.0), r.1, sym r.2)

    bytes_are : text_of (drop p s) ≡ part (p + 6) n s
    bytes_are = ap (λ z. part 6 z (drop p s)) (sym there.2) ∙ ap (take n) (drop-drop 6 p s)

    past_length : scan_text mark (drop p s) ≡ unless (leb (6 + n) (length (drop p s))) (fault 12 0) (unless (is_text (part (p + 6) n s)) (fault 13 0) (good (6 + n)))
    past_length =
        both-good (marked mark 4 (drop p s)) 6 _ there.0 ∙
        (ap (λ z. unless (leb (6 + z) (length (drop p s))) (fault 12 0) (unless (is_text (text_of (drop p s))) (fault 13 0) (good (6 + z)))) (sym there.2) ∙
        ap (λ z. unless (leb (6 + n) (length (drop p s))) (fault 12 0) (unless (is_text z) (fault 13 0) (good (6 + n)))) bytes_are)

    pub text_read-cut : length s - (p + 6) < n → text_read mark s p ≡ fault 12 p
    text_read-cut c =
        let l = length-drop p s in
        let k = there.1 in
        ap (λ z. both z (λ _. good (text_of (drop p s)))) (at_place-fault (scan_text mark) s p 12 (past_length ∙ unless-false (leb (6 + n) (length (drop p s))) _ _ (lt-leb (6 + n) (length (drop p s)) (omega arith))))

    fits : n ≤ length s - (p + 6) → leb (6 + n) (length (drop p s)) ≡ true
    fits c = let l = length-drop p s in let k = there.1 in le-leb (6 + n) (length (drop p s)) (omega arith)

    pub text_read_wrong : n ≤ length s - (p + 6) → is_text (part (p + 6) n s) ≡ false → text_read mark s p ≡ fault 13 p
    text_read_wrong c t =
        ap (λ z. both z (λ _. good (text_of (drop p s)))) (at_place-fault (scan_text mark) s p 13 (past_length ∙ (unless-true (leb (6 + n) (length (drop p s))) _ _ (fits c) ∙ unless-false (is_text (part (p + 6) n s)) _ _ t)))

    pub text_read-good : n ≤ length s - (p + 6) → is_text (part (p + 6) n s) ≡ true → text_read mark s p ≡ good (part (p + 6) n s)
    text_read-good c t =
        ap (λ z. both z (λ _. good (text_of (drop p s)))) (at_place-good (scan_text mark) s p (6 + n) (past_length ∙ (unless-true (leb (6 + n) (length (drop p s))) _ _ (fits c) ∙ unless-true (is_text (part (p + 6) n s)) _ _ t))) ∙ ap good bytes_are
