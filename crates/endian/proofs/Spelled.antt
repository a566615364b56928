-- A list of w numbers, spelled out by its elements. Assumes nothing.
use Rattle.std.proofs.Common.{◌≡◌, ℕ, zero, suc, ◌+◌, List, [], ◌∷◌, length, get_or, drop, sym, ap, ◌∙◌, add-one, arith}
use Rattle.std.proofs.lemmas.List.{drop_all, drop_more}

-- w elements from i on
abbrev pub items : ℕ → ℕ → List ℕ → List ℕ
items zero i xs = []
items (suc w) i xs = get_or xs i 0 ∷ items w (suc i) xs

items_drop : (w i : ℕ) (xs : List ℕ) → length xs ≡ i + w → items w i xs ≡ drop i xs
items_drop zero i xs h = sym (drop_all i xs (omega arith))
items_drop (suc w) i xs h =
    ap (λ ys. get_or xs i 0 ∷ ys) (items_drop w (suc i) xs (omega arith)) ∙ sym (rw add-one at (drop_more xs i 0 (omega arith)))

pub spelled : (w : ℕ) (xs : List ℕ) → length xs ≡ w → items w 0 xs ≡ xs
spelled w xs h = items_drop w 0 xs (omega arith)
