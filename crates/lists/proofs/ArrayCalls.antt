-- What an array in the head asks of its row, and what it answers by it. Assumes nothing.
use Rattle.std.proofs.Common.{◌≡◌, ℕ, ◌+◌, ◌≤◌, List, length, sym, refl, ap, ◌∙◌, subst}
use Rattle.format.specs.Answers.{Answer, good, bad, both, inside}
use Rattle.format.specs.Sheets.{array_mark}
use Rattle.format.specs.Meaning.{Meaning}
use Rattle.format.specs.Items.{row}
use Rattle.format.specs.Links.{array}
use Rattle.kind.specs.Asked.{value_at, Next, Askable, Foretold, Fillable}
use Rattle.holding.proofs.Fronts.{held-there, held-found}

-- one look at the row, told one level deeper
pub looked : (x : Answer ℕ) (p : ℕ) → inside (both x (λ _. good p)) ≡ both (inside x) (λ _. good p)
looked (good n) p = refl
looked (bad f) p = refl

module _ (n : ℕ) (m : Meaning) (s : List ℕ) (p : ℕ) where
  found : (q : ℕ) → Next (array n m) s p q → Next (row m n) s (p + 2) q
  found = held-found array_mark 0 (row m n) (row m n) refl s p

  pub array-next : (q r : ℕ) → Next (array n m) s p q → Next (row m n) s (p + 2) r → Next (array n m) s p r
  array-next q r h i = h ∙ (sym (found q h) ∙ i)

  -- what the row is laid as is what the array is laid as
  pub array-laid : (q h t : ℕ) → Next (array n m) s p q → (row m n).lay (value_at (row m n) s (p + 2)) h t ≡ (array n m).lay (value_at (array n m) s p) h t
  array-laid q h t f = ap (λ u. (row m n).lay u h t) (sym (held-there array_mark 0 (row m n) s p q f).value)

  pub array_askable : (t : ℕ) → Askable (array n m) s p t → Askable (row m n) s (p + 2) t
  array_askable t a = record { next = a.next; found = found a.next a.found; reached = a.reached }

  pub array_foretold : (q t e w : ℕ) → Next (array n m) s p q → Foretold (row m n) s (p + 2) t e w → Foretold (array n m) s p t e w
  array_foretold q t e w h fore at = subst (λ x. (x.end ≡ e) × (x.widest ≡ w)) (array-laid q at t h) (fore at)

  pub array_fillable : (out : List ℕ) (h t : ℕ) → Fillable (array n m) s p out h t → Fillable (row m n) s (p + 2) out h t
  array_fillable out h t f = record {
    next = f.next;
    found = found f.next f.found;
    aligned = f.aligned;
    behind = f.behind;
    starts = f.starts;
    room = subst (λ x. x.end ≤ length out) (sym (array-laid f.next h t f.found)) f.room;
    capped = f.capped;
  }
