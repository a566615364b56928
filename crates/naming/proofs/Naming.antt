-- Which form a name is spelled as, where a holder's letters stand at its front, and where none do. Assumes nothing.
use Rattle.std.proofs.Common.{◌≡◌, ℕ, Bool, true, false, cond, ◌&&◌, List, [], ◌∷◌, ◌++◌, map, codes, Option, Some, None, refl, ◌∙◌, nat_eq}
use Rattle.std.specs.Option.{option_map, option_or}
use Rattle.std.specs.Cmp.Lexicographic.{pointwise}
use Rattle.std.proofs.lemmas.Bool.{eq-eqb}
use Rattle.std.proofs.lemmas.List.Folds.{find-append}
use Rattle.naming.specs.Forms.{Form, spelled, pointer, array, far_array, slice, leaves, held, named_among}

-- a name begins with these letters
abbrev pub begins : List ℕ → List ℕ → Bool
begins [] name = true
begins (x ∷ xs) [] = false
begins (x ∷ xs) (y ∷ ys) = nat_eq y x && begins xs ys

itself : (x : ℕ) → nat_eq x x ≡ true
itself x = eq-eqb x x refl

behind : (letters name s : List ℕ) → pointwise nat_eq (letters ++ name) (letters ++ s) ≡ pointwise nat_eq name s
behind [] name s = refl
behind (x ∷ xs) name s = rw (itself x) (behind xs name s)

unlike_both : (b c d : Bool) → (b && c) ≡ false → (c ≡ false → d ≡ false) → (b && d) ≡ false
unlike_both true c d h k = k h
unlike_both false c d h k = refl

unlike : (letters name s : List ℕ) → begins letters name ≡ false → pointwise nat_eq name (letters ++ s) ≡ false
unlike [] name s h = cc
unlike (x ∷ xs) [] s h = refl
unlike (x ∷ xs) (y ∷ ys) s h = unlike_both (nat_eq y x) (begins xs ys) _ h (unlike xs ys s)

mapped : {A B : Type 0} (f : A → B) (b : Bool) (x : A) (o : Option A) → cond b (Some (f x)) (option_map f o) ≡ option_map f (cond b (Some x) o)
mapped f true x o = refl
mapped f false x o = refl

module _ (hold : Form → Form) (letters : List ℕ) (spells : (f : Form) → spelled (hold f) ≡ letters ++ spelled f) where
  -- the name of what is held, behind the letters of its holder
  pub named_behind : (fs : List Form) (name : List ℕ) → named_among (map hold fs) (letters ++ name) ≡ option_map hold (named_among fs name)
  named_behind [] name = refl
  named_behind (f ∷ fs) name =
      rw (spells f, behind letters name (spelled f), named_behind fs name) (mapped hold (pointwise nat_eq name (spelled f)) f (named_among fs name))

  pub named_elsewise : (fs : List Form) (name : List ℕ) → begins letters name ≡ false → named_among (map hold fs) name ≡ None
  named_elsewise [] name h = refl
  named_elsewise (f ∷ fs) name h = rw (spells f, unlike letters name (spelled f) h) (named_elsewise fs name h)

-- of two lists of forms, one that has no such name
pub none_before : (xs ys : List Form) (name : List ℕ) → named_among xs name ≡ None → named_among (xs ++ ys) name ≡ named_among ys name
none_before xs ys name h = rw (find-append (λ f. pointwise nat_eq name (spelled f)) xs ys, h) refl

or_none : {A : Type 0} (o : Option A) → option_or o None ≡ o
or_none None = refl
or_none (Some x) = refl

pub none_after : (xs ys : List Form) (name : List ℕ) → named_among ys name ≡ None → named_among (xs ++ ys) name ≡ named_among xs name
none_after xs ys name h = rw (find-append (λ f. pointwise nat_eq name (spelled f)) xs ys, h) (or_none (named_among xs name))

module _ (fs : List Form) (name : List ℕ) where
  no_pointer : begins (codes "p") name ≡ false → named_among (map pointer fs) name ≡ None
  no_pointer h = named_elsewise pointer (codes "p") (λ f. refl) fs name h

  no_array : begins (codes "r2.") name ≡ false → named_among (map (array 2) fs) name ≡ None
  no_array h = named_elsewise (array 2) (codes "r2.") (λ f. refl) fs name h

  no_far_array : begins (codes "a3.") name ≡ false → named_among (map (far_array 3) fs) name ≡ None
  no_far_array h = named_elsewise (far_array 3) (codes "a3.") (λ f. refl) fs name h

  no_slice : begins (codes "s") name ≡ false → named_among (map slice fs) name ≡ None
  no_slice h = named_elsewise slice (codes "s") (λ f. refl) fs name h

-- a name that begins as one of the four that hold
module _ (fs : List Form) (name : List ℕ) where
  pub named_pointer : named_among (leaves ++ held fs) (codes "p" ++ name) ≡ option_map pointer (named_among fs name)
  named_pointer =
      let n = codes "p" ++ name in
      none_after (map pointer fs) _ n (none_before (map (array 2) fs) _ n (no_array fs n refl) ∙ none_before (map (far_array 3) fs) _ n (no_far_array fs n refl) ∙ no_slice fs n refl)
      ∙ named_behind pointer (codes "p") (λ f. refl) fs name

  pub named_array : named_among (leaves ++ held fs) (codes "r2." ++ name) ≡ option_map (array 2) (named_among fs name)
  named_array =
      let n = codes "r2." ++ name in
      none_before (map pointer fs) _ n (no_pointer fs n refl)
      ∙ none_after (map (array 2) fs) _ n (none_before (map (far_array 3) fs) _ n (no_far_array fs n refl) ∙ no_slice fs n refl)
      ∙ named_behind (array 2) (codes "r2.") (λ f. refl) fs name

  pub named_far_array : named_among (leaves ++ held fs) (codes "a3." ++ name) ≡ option_map (far_array 3) (named_among fs name)
  named_far_array =
      let n = codes "a3." ++ name in
      none_before (map pointer fs) _ n (no_pointer fs n refl) ∙ none_before (map (array 2) fs) _ n (no_array fs n refl)
      ∙ none_after (map (far_array 3) fs) _ n (no_slice fs n refl)
      ∙ named_behind (far_array 3) (codes "a3.") (λ f. refl) fs name

  pub named_slice : named_among (leaves ++ held fs) (codes "s" ++ name) ≡ option_map slice (named_among fs name)
  named_slice =
      let n = codes "s" ++ name in
      none_before (map pointer fs) _ n (no_pointer fs n refl) ∙ none_before (map (array 2) fs) _ n (no_array fs n refl)
      ∙ none_before (map (far_array 3) fs) _ n (no_far_array fs n refl)
      ∙ named_behind slice (codes "s") (λ f. refl) fs name

-- a name that begins as none of them does
pub record NoneHolds (name : List ℕ) : Type 0 where
  pub pointer : begins (codes "p") name ≡ false
  pub array : begins (codes "r2.") name ≡ false
  pub far_array : begins (codes "a3.") name ≡ false
  pub slice : begins (codes "s") name ≡ false

pub named_leaf : (fs : List Form) (name : List ℕ) → NoneHolds name → named_among (leaves ++ held fs) name ≡ named_among leaves name
named_leaf fs name h =
    none_after leaves (held fs) name
    (none_before (map pointer fs) _ name (no_pointer fs name h.pointer) ∙ none_before (map (array 2) fs) _ name (no_array fs name h.array)
    ∙ none_before (map (far_array 3) fs) _ name (no_far_array fs name h.far_array) ∙ no_slice fs name h.slice)
