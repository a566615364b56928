-- A number that an archive holds is taken back, a distance leads where it was laid to lead, also after a move, and what sits in an archive sits in a longer one. Assumes nothing.
use Rattle.std.proofs.Common.{◌≡◌, ℕ, ◌+◌, ◌-◌, ◌%◌, ◌^◌, ◌<◌, ◌≤◌, eqb, ltb, leb, List, ◌++◌, length, ap, ◌∙◌, subst, arith}
use Rattle.std.proofs.lemmas.List.{length-append}
use Rattle.std.proofs.lemmas.Bool.{lt-ltb, le-leb, leb-true, eq-eqb, eqb-true}
use Rattle.format.specs.Places.{Bytes, part, Holds}
use Rattle.format.specs.Orders.{Width, Order, Undoes}
use Rattle.format.specs.Answers.{good}
use Rattle.format.specs.Meaning.{sits}
use Rattle.format.specs.Texts.{leads, target}
use Rattle.format.proofs.ByteLists.{bytes-append}
use Rattle.format.proofs.OrderLaws.{width_4}
use Rattle.format.proofs.AnswerLaws.{unless-true, unless_parts}
use Rattle.format.proofs.PlaceLaws.{holds_left, holds_right, part-longer}

-- a distance below 2^31 leads on
pub leads_on : (d n : ℕ) → n < 2147483648 → leads d n ≡ good (d + n)
leads_on d n h = unless-true (ltb n 2147483648) _ _ (lt-ltb n 2147483648 h)

-- a number of four bytes with others behind it
module _ (o : Order) (law : Undoes o) (n : ℕ) (xs : List ℕ) (small : n < 4294967296) where
  pub number-long : length (o.lay 4 n ++ xs) ≡ 4 + length xs
  number-long = length-append (o.lay 4 n) xs ∙ ap (λ z. z + length xs) (law.long 4 n width_4 small)

  pub number-bytes : Bytes xs → Bytes (o.lay 4 n ++ xs)
  number-bytes b = bytes-append (o.lay 4 n) xs (law.bytes 4 n width_4 small) b

-- of what an archive holds
module _ (o : Order) (law : Undoes o) (a : List ℕ) where
  pub taken-there : (w n p : ℕ) → Width w → n < 256 ^ w → Holds a p (o.lay w n) → o.take_back (part p w a) ≡ n
  taken-there w n p k h x = ap o.take_back (subst (λ z. part p z a ≡ o.lay w n) (law.long w n k h) x.same) ∙ law.laid w n k h

  pub number-held : (n : ℕ) (xs : List ℕ) (p : ℕ) → n < 4294967296 → Holds a p (o.lay 4 n ++ xs) → (o.take_back (part p 4 a) ≡ n) × Holds a (p + 4) xs
  number-held n xs p h x =
      (taken-there 4 n p width_4 h (holds_left a p (o.lay 4 n) xs x), subst (λ z. Holds a (p + z) xs) (law.long 4 n width_4 h) (holds_right a p (o.lay 4 n) xs x))

  -- the distance from d to q, found at e, leads to r where e and r are d and q moved together
  pub target-moved : (d q e r : ℕ) → d ≤ q → q - d < 2147483648 → r + d ≡ e + q → Holds a e (o.lay 4 (q - d)) → target o a e ≡ good r
  target-moved d q e r l s m x =
      let there : e + (q - d) ≡ r = omega arith in
      ap (leads e) (taken-there 4 (q - d) e width_4 (omega arith) x) ∙ (leads_on e (q - d) s ∙ ap good there)

  pub target-laid : (d q : ℕ) → d ≤ q → q - d < 2147483648 → Holds a d (o.lay 4 (q - d)) → target o a d ≡ good q
  target-laid d q l s x = target-moved d q d q l s (omega arith) x

pub target-longer : (o : Order) (a b : List ℕ) (p : ℕ) → p + 4 ≤ length a → target o (a ++ b) p ≡ target o a p
target-longer o a b p h = ap (λ z. leads p (o.take_back z)) (part-longer a b p 4 h)

-- what sits is within and aligned
module _ (named p n a : ℕ) where
  pub sits-good : (len : ℕ) → p + n ≤ len → p % a ≡ 0 → sits named p n a len ≡ good p
  sits-good len h z = unless-true (leb (p + n) len) _ _ (le-leb (p + n) len h) ∙ unless-true (eqb (p % a) 0) _ _ (eq-eqb (p % a) 0 z)

  pub sits_parts : (len q : ℕ) → sits named p n a len ≡ good q → (p ≡ q) × (p + n ≤ len) × (p % a ≡ 0)
  sits_parts len q h =
      let k = unless_parts (leb (p + n) len) _ _ q h in
      let j = unless_parts (eqb (p % a) 0) _ _ q k.1 in
      let same_place = j.1 in
      (cc, leb-true (p + n) len k.0, eqb-true (p % a) 0 j.0)

  pub sits-longer : (xs ys : List ℕ) (q : ℕ) → sits named p n a (length xs) ≡ good q → sits named p n a (length (xs ++ ys)) ≡ good q
  sits-longer xs ys q h =
      let k = sits_parts (length xs) q h in
      let fits = k.1 in
      let l = length-append xs ys in
      sits-good (length (xs ++ ys)) (omega arith) k.2 ∙ ap good k.0
