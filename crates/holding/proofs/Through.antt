-- What is read through one distance, and put behind a front. Assumes nothing.
use Rattle.std.proofs.Common.{◌≡◌, ℕ, ◌+◌, ◌≤◌, min, List, ◌++◌, length, sym, refl, ap, ◌∙◌, subst, arith}
use Rattle.std.proofs.lemmas.List.{length-append}
use Rattle.format.specs.Places.{limit, put}
use Rattle.format.specs.Orders.{Order}
use Rattle.format.specs.Answers.{Answer, good, bad, both, inside}
use Rattle.format.specs.Meaning.{Meaning, Sits}
use Rattle.format.specs.Texts.{target}
use Rattle.format.specs.Links.{linked, held}
use Rattle.format.proofs.AnswerLaws.{both_parts, inside-good, good-same}
use Rattle.format.proofs.PutLaws.{put-put}
use Rattle.format.proofs.FarLaws.{linked_parts}
use Rattle.kind.specs.Asked.{Copyable, length_read}

-- a value that another holds, whose sheet begins with a front
pub held_parts : (front : List ℕ) (m : Meaning) (a : List ℕ) (q : ℕ) (s : List ℕ) → held front m a q ≡ good s → (r : List ℕ) × ((m.reading a q ≡ good r) × (s ≡ front ++ r))
held_parts front m a q s h =
    let x = both_parts (m.reading a q) _ s (inside-good _ s h) in
    (x.0, (x.1.0, sym (good-same _ _ x.1.1)))

-- how long the sheet is that is read behind a front of so many bytes
length-held : (front : List ℕ) (k : ℕ) → length front ≡ k → (m : Meaning) (a : List ℕ) (q : ℕ) → inside (both (length_read (m.reading a q)) (λ n. good (min (k + n) 18446744073709551615))) ≡ length_read (held front m a q)
length-held front k h m a q = go (m.reading a q) where
  go : (x : Answer (List ℕ)) → inside (both (length_read x) (λ n. good (min (k + n) 18446744073709551615))) ≡ length_read (inside (both x (λ s. good (front ++ s))))
  go (good s) =
      let l = length-append front s in
      let e : min (k + min (length s) 18446744073709551615) 18446744073709551615 ≡ min (length (front ++ s)) 18446744073709551615 = omega arith in
      ap good e
  go (bad f) = refl

-- the same by b, which is m as the code has it: x is what the one that is held answers, r what its holder does
pub behind-deep :
    (front : List ℕ) (k : ℕ) → length front ≡ k → (m b : Meaning) → b ≡ m → (a : List ℕ) (q : ℕ) (x r : Answer ℕ) → r ≡ inside (both x (λ n. good (min (k + n) 18446744073709551615))) →
    x ≡ length_read (b.reading a q) → r ≡ length_read (held front m a q)
behind-deep front k h m b is a q x r e d =
    e ∙ (ap (λ x. inside (both x (λ n. good (min (k + n) 18446744073709551615)))) d ∙ (length-held front k h b a q ∙ ap (λ z. length_read (held front z a q)) is))

-- a value of m that another holds is copied right behind the front, by b, which is m as the code has it
module _ (front : List ℕ) (m b : Meaning) (is : b ≡ m) (a : List ℕ) (q : ℕ) (s : List ℕ) (h : held front m a q ≡ good s) where
  inner : (r : List ℕ) × ((b.reading a q ≡ good r) × (s ≡ front ++ r))
  inner = let r = held_parts front m a q s h in (r.0, (ap (λ z. z.reading a q) is ∙ r.1.0, r.1.1))

  -- in a buffer with room for both
  pub held_copyable : (out : List ℕ) (to e : ℕ) → length a ≤ limit → Sits m a q → to + length s ≤ length out → e ≡ to + length front → Copyable b a q out e
  held_copyable out to e capped sits room f =
      let r = inner in
      let there = subst (λ z. Sits z a q) (sym is) sits in
      record {
        seated = record { capped = capped; within = there.0; aligned = there.1 };
        sheet = r.0;
        read = r.1.0;
        room = let l = ap length r.1.1 ∙ length-append front r.0 in omega arith;
      }

  pub held-copied :
      (first out new : List ℕ) (to e r : ℕ) → to ≤ length first → out ≡ put first to front → e ≡ to + length front →
      ((i : List ℕ) → b.reading a q ≡ good i → (new ≡ put out e i) × (r ≡ e + length i)) → (new ≡ put first to s) × (r ≡ to + length s)
  held-copied first out new to e r start o f ensures =
      let i = inner in
      let x = ensures i.0 i.1.0 in
      let end = x.1 in
      let l = ap length i.1.1 ∙ length-append front i.0 in (
        x.0 ∙ (ap (λ z. put z e i.0) o ∙ (put-put first to front i.0 e start f ∙ ap (put first to) (sym i.1.1))),
        omega arith,
      )

-- what is read through a distance leads somewhere
pub leads : (front : List ℕ) (m : Meaning) (o : Order) (a : List ℕ) (d : ℕ) (s : List ℕ) → both (linked m o a d) (held front m a) ≡ good s → (q : ℕ) × (target o a d ≡ good q)
leads front m o a d s h =
    let x = both_parts (linked m o a d) _ s h in
    (x.0, (linked_parts m o a d x.0 x.1.0).0)

-- the same through a distance that leads to q
pub led_copied :
    (front : List ℕ) (m : Meaning) (o : Order) (a : List ℕ) (d : ℕ) (s : List ℕ) → both (linked m o a d) (held front m a) ≡ good s → (q : ℕ) → target o a d ≡ good q →
    (first out new : List ℕ) (to e r : ℕ) → to ≤ length first → out ≡ put first to front → e ≡ to + length front →
    ((i : List ℕ) → m.reading a q ≡ good i → (new ≡ put out e i) × (r ≡ e + length i)) → (new ≡ put first to s) × (r ≡ to + length s)
led_copied front m o a d s h q led =
    let x = both_parts (linked m o a d) _ s h in
    let there = good-same _ _ (sym (linked_parts m o a d x.0 x.1.0).0 ∙ led) in
    held-copied front m m refl a q s (subst (λ z. held front m a z ≡ good s) there x.1.1)
