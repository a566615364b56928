-- The pieces of bytes hold no separator, and with one behind each they are the bytes. Assumes nothing.
use Rattle.std.proofs.Common.{◌≡◌, ℕ, Bool, true, false, cond, eqb, List, [], ◌∷◌, ◌++◌, sym, refl, ap, ◌∙◌}
use Rattle.std.specs.List.{flat_map}
use Rattle.std.proofs.lemmas.Bool.{eqb-true, eqb-false}
use Rattle.plate_lists.specs.Lists.{before, pieces, AllUnseparated, closed, ArePieces}

module _ (sep : ℕ) where
  -- a byte that is no separator, before pieces that have none
  before_all : (b : ℕ) (ls : List (List ℕ)) → (b ≡ sep → ⊥) → AllUnseparated sep ls → AllUnseparated sep (before b ls)
  before_all b [] e h = ((e, tt), tt)
  before_all b (l ∷ ls) e h = ((e, h.0), h.1)

  all_unseparated : (s : List ℕ) → AllUnseparated sep (pieces sep s)
  all_unseparated [] = tt
  all_unseparated (b ∷ bs) = go (eqb b sep) refl (all_unseparated bs) where
    go : (t : Bool) → eqb b sep ≡ t → AllUnseparated sep (pieces sep bs) → AllUnseparated sep (cond t ([] ∷ pieces sep bs) (before b (pieces sep bs)))
    go true e h = (tt, h)
    go false e h = before_all b (pieces sep bs) (eqb-false b sep e) h

  abbrev ended : List (List ℕ) → List ℕ
  ended = flat_map (λ l. l ++ sep ∷ [])

  -- what bytes that are not none add to their first piece
  before-ended : (b c : ℕ) (bs : List ℕ) → ended (before b (pieces sep (c ∷ bs))) ≡ b ∷ ended (pieces sep (c ∷ bs))
  before-ended b c bs = go (eqb c sep) (pieces sep bs) where
    go : (t : Bool) (ls : List (List ℕ)) → ended (before b (cond t ([] ∷ ls) (before c ls))) ≡ b ∷ ended (cond t ([] ∷ ls) (before c ls))
    go true ls = refl
    go false [] = refl
    go false (l ∷ ls) = refl

  rejoined : (s : List ℕ) → ended (pieces sep s) ≡ closed sep s
  rejoined [] = refl
  rejoined (b ∷ []) = go (eqb b sep) refl where
    go : (t : Bool) → eqb b sep ≡ t → ended (cond t ([] ∷ []) ((b ∷ []) ∷ [])) ≡ cond t (b ∷ []) (b ∷ sep ∷ [])
    go true e = ap (λ z. z ∷ []) (sym (eqb-true b sep e))
    go false e = refl
  rejoined (b ∷ c ∷ bs) = go (eqb b sep) refl (rejoined (c ∷ bs)) where
    go : (t : Bool) → eqb b sep ≡ t → ended (pieces sep (c ∷ bs)) ≡ closed sep (c ∷ bs) → ended (cond t ([] ∷ pieces sep (c ∷ bs)) (before b (pieces sep (c ∷ bs)))) ≡ b ∷ closed sep (c ∷ bs)
    go true e h = ap (λ z. z ∷ ended (pieces sep (c ∷ bs))) (sym (eqb-true b sep e)) ∙ ap (λ z. b ∷ z) h
    go false e h = before-ended b c bs ∙ ap (λ z. b ∷ z) h

  pub are_pieces : (s : List ℕ) → ArePieces sep s (pieces sep s)
  are_pieces s = record { without = all_unseparated s; rejoined = rejoined s }
