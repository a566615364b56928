-- Laws of one distance to something that sits: what is read through it, and what is filled in behind it. Assumes nothing.
use Rattle.std.proofs.Common.{◌≡◌, ℕ, ◌+◌, ◌-◌, ◌%◌, ◌^◌, ◌<◌, ◌≤◌, max, List, [], ◌++◌, length, refl, ap, ◌∙◌, subst, arith, lit≤}
use Rattle.std.proofs.lemmas.List.{length-append, length-replicate}
use Rattle.format.specs.Places.{limit, stop, up, zeros, Alignment, Holds, Bytes}
use Rattle.format.specs.Orders.{Order, Undoes}
use Rattle.format.specs.Answers.{good, both, inside}
use Rattle.format.specs.Meaning.{Meaning, Belongs, Sits, Placed, Moved, Keeps}
use Rattle.format.specs.Texts.{target}
use Rattle.format.specs.Links.{linked, held, far}
use Rattle.format.proofs.ByteLists.{bytes-append, bytes-zeros}
use Rattle.format.proofs.AnswerLaws.{both-good, both_parts, inside-good}
use Rattle.format.proofs.PlaceLaws.{holds_left, holds_right}
use Rattle.format.proofs.RoundLaws.{up_ge, up-mod, same-mod, alignment_pos, alignment-max, mod-moved}
use Rattle.format.proofs.DistanceLaws.{target-moved, target-longer, sits-good, sits_parts}

-- what a value that holds another reads is its front and what the other reads
module _ (front : List ℕ) (m : Meaning) where
  pub held-from : (a : List ℕ) (q : ℕ) (r : List ℕ) → m.reading a q ≡ good r → held front m a q ≡ good (front ++ r)
  held-from a q r h = ap (λ z. inside (both z (λ s. good (front ++ s)))) h

  pub held-longer : Keeps m → (a b s : List ℕ) (q : ℕ) → length (a ++ b) ≤ limit → Sits m a q → held front m a q ≡ good s → held front m (a ++ b) q ≡ good s
  held-longer k a b s q l i h =
      let x = both_parts (m.reading a q) _ s (inside-good _ s h) in
      held-from (a ++ b) q x.0 (k.longer a b x.0 q l i x.1.0) ∙ x.1.1

-- one distance to something that sits: what is read through it
module _ (m : Meaning) (o : Order) where
  linked-from : (a : List ℕ) (d q : ℕ) → target o a d ≡ good q → Sits m a q → linked m o a d ≡ good q
  linked-from a d q h i = both-good (target o a d) q _ h ∙ sits-good d q m.size m.align (length a) i.0 i.1

  pub linked_parts : (a : List ℕ) (d q : ℕ) → linked m o a d ≡ good q → (target o a d ≡ good q) × Sits m a q
  linked_parts a d q h =
      let x = both_parts (target o a d) _ q h in
      let y = sits_parts d x.0 m.size m.align (length a) q x.1.1 in
      (x.1.0 ∙ ap good y.0, subst (Sits m a) y.0 (y.1, y.2))

  pub through_longer :
      Keeps m → (front a b s : List ℕ) (d : ℕ) → length (a ++ b) ≤ limit → d + 4 ≤ length a →
      both (linked m o a d) (held front m a) ≡ good s → both (linked m o (a ++ b) d) (held front m (a ++ b)) ≡ good s
  through_longer k front a b s d l w h =
      let x = both_parts (linked m o a d) _ s h in
      let q = x.0 in
      let y = linked_parts a d q x.1.0 in
      let g = length-append a b in
      let i = y.1.0 in
      both-good (linked m o (a ++ b) d) q _ (linked-from (a ++ b) d q (target-longer o a b d w ∙ y.0) (omega arith, y.1.1)) ∙
      held-longer front m k a b s q l y.1 x.1.1

-- what is filled in behind it
module _ (m : Meaning) (k : Keeps m) (v : List ℕ) (t : ℕ) (b : Belongs m v) where
  pub far-widest : Alignment (far [] m v t).widest × (4 ≤ (far [] m v t).widest)
  far-widest = (alignment-max 4 _ (2, (lit≤ tt, refl)) (k.widest_power v _ _ b).0, omega arith)

  record Begun : Type 0 where
    on : t ≤ up t m.align
    ends : stop (up t m.align + m.size) ≤ (far [] m v t).end
    capped : (far [] m v t).end ≤ 2147483648

  begun : Begun
  begun =
      let x = k.onward v (up t m.align) (stop (up t m.align + m.size)) b (omega arith) in
      record { on = (up_ge t m.align (alignment_pos _ k.power)).0; ends = x.0; capped = x.1 }

  pub far-onward : t ≤ 2147483648 → (t ≤ (far [] m v t).end) × ((far [] m v t).end ≤ 2147483648)
  far-onward l = let s = begun in (omega arith, s.capped)

  -- where it fits
  module _ (fits : (far [] m v t).end ≤ limit) where
    record Reached : Type 0 where
      on : t ≤ up t m.align
      exact : stop (up t m.align + m.size) ≡ up t m.align + m.size
      short : up t m.align < 2147483648
      padded : length (zeros (up t m.align - t)) ≡ up t m.align - t
      placed : Placed m v (up t m.align) (stop (up t m.align + m.size))
      head_long : length (m.lay v (up t m.align) (stop (up t m.align + m.size))).head ≡ m.size

    reached : Reached
    reached =
        let q = up t m.align in
        let s = begun in
        let exact : stop (q + m.size) ≡ q + m.size = omega arith in
        let placed : Placed m v q (stop (q + m.size)) = record { belongs = b; aligned = up-mod t m.align; behind = omega arith; reached = omega arith; fits = fits } in
        record { on = s.on; exact = exact; short = omega arith; padded = length-replicate (q - t) 0; placed = placed; head_long = k.head_long v q _ placed }

    far-tail_long : t + length (far [] m v t).tail ≡ (far [] m v t).end
    far-tail_long =
        let r = reached in
        let q = up t m.align in
        let x = m.lay v q (stop (q + m.size)) in
        let tail = k.tail_long v q _ r.placed in
        let e = length-append (zeros (q - t)) (x.head ++ x.tail) in
        let f = length-append x.head x.tail in
        omega arith

    far-bytes : Bytes (far [] m v t).tail
    far-bytes = let x = k.bytes v _ _ reached.placed in bytes-append (zeros (up t m.align - t)) _ (bytes-zeros _) (bytes-append _ _ x.0 x.1)

    far_near : (d : ℕ) → up t m.align - d < 256 ^ 4
    far_near d = let r = reached in omega arith

    far-back :
        (o : Order) → Undoes o → (front a : List ℕ) (d e s : ℕ) → d ≤ t → Moved (far [] m v t).widest d t e s →
        Holds a e (o.lay 4 (up t m.align - d)) → Holds a s (far [] m v t).tail → both (linked m o a e) (held front m a) ≡ good (front ++ m.kept v)
    far-back o law front a d e s le moved dist tail =
        let r = reached in
        let q = up t m.align in
        let x = m.lay v q (stop (q + m.size)) in
        let p = e + (q - d) in
        let here : s + length (zeros (q - t)) ≡ p = omega arith in
        let item : Holds a p (x.head ++ x.tail) = subst (λ z. Holds a z (x.head ++ x.tail)) here (holds_right a s (zeros (q - t)) (x.head ++ x.tail) tail) in
        let head-held = holds_left a p x.head x.tail item in
        let w = k.widest_power v q (stop (q + m.size)) b in
        let wide : e % x.widest ≡ d % x.widest = same-mod x.widest (max 4 x.widest) e d w.0 far-widest.0 (omega arith) moved.multiple in
        let multiple : p % x.widest ≡ q % x.widest = mod-moved x.widest e d q p wide (omega arith) in
        let aligned : p % m.align ≡ 0 = same-mod m.align x.widest p q k.power w.0 w.1 multiple ∙ up-mod t m.align in
        let led : target o a e ≡ good p = target-moved o law a d q e p (omega arith) (omega arith) (omega arith) dist in
        both-good (linked m o a e) p _ (linked-from m o a e p led (omega arith, aligned)) ∙
        held-from front m a p (m.kept v)
        (k.back v q (stop (q + m.size)) p (p + length x.head) a r.placed (record { multiple = multiple; together = omega arith }) head-held (holds_right a p x.head x.tail item))

-- of what fits: each distance to it can be laid, its tail has the length told, and a distance from d, with all of it moved to e and s, reads it again
pub record Filled (m : Meaning) (v : List ℕ) (t : ℕ) : Type 0 where
  pub near : (d : ℕ) → up t m.align - d < 256 ^ 4
  pub tail_long : t + length (far [] m v t).tail ≡ (far [] m v t).end
  pub tail-bytes : Bytes (far [] m v t).tail
  pub again :
      (o : Order) → Undoes o → (front a : List ℕ) (d e s : ℕ) → d ≤ t → Moved (far [] m v t).widest d t e s →
      Holds a e (o.lay 4 (up t m.align - d)) → Holds a s (far [] m v t).tail → both (linked m o a e) (held front m a) ≡ good (front ++ m.kept v)

pub filled : (m : Meaning) → Keeps m → (v : List ℕ) (t : ℕ) → Belongs m v → (far [] m v t).end ≤ limit → Filled m v t
filled m k v t b fits = record {
  near = far_near m k v t b fits;
  tail_long = far-tail_long m k v t b fits;
  tail-bytes = far-bytes m k v t b fits;
  again = far-back m k v t b fits;
}
