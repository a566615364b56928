-- Pieces that are cut from the front, one after the other. Assumes nothing.
use Rattle.std.proofs.Common.{◌≡◌, ℕ, zero, suc, ◌+◌, ◌-◌, ◌<◌, Bool, true, false, eqb, ◌&&◌, Option, None, Some, List, [], ◌∷◌, ◌++◌, length, take, drop, MatchOption, min, sym, refl, ap, ◌∙◌, subst, arith, Bor}
use Rattle.std.specs.List.{AllWithin, HoldsAt, IsFirstMatchOrLen}
use Rattle.std.specs.Fn.{Called, CalledAt, ComputesKey}
use Rattle.std.specs.declared.slice.SplitInclusive.{SplitInclusive}
use Rattle.std.specs.Slice.Iter.{split_inclusive_rest, split_inclusive_callee}
use Rattle.std.specs.Option.{unwrap_or}
use Rattle.std.specs.Iterator.Adapters.{map_source, map_callee}
use Rattle.std.specs.Cmp.Lexicographic.{pointwise}
use denote.Param.Members.{Mut}
use Rattle.std.proofs.lemmas.Bool.{cond-true, cond-false}
use Rattle.std.proofs.lemmas.List.{nil_from_length}
use Rattle.std.proofs.lemmas.Fn.{always_returns_same}
use Rattle.std.proofs.lemmas.Iterator.{YieldsList, maps}
use Rattle.std.proofs.lemmas.Iterator.Splits.{YieldsList-from_shown_while}
use Rattle.plate_lists.specs.Lists.{before, pieces, unended}

and_first : (t : Bool) → (t && true) ≡ true → t ≡ true
and_first true h = refl
and_first false h = h

and-not : (t : Bool) → (t && true) ≡ false → t ≡ false
and-not true h = h
and-not false h = refl

module _ (sep : ℕ) where
  -- a front that ends at the first separator, or with the bytes, is the first piece and what ends it
  first_of : (front others : List ℕ) (i : ℕ) → length front ≡ min (i + 1) (length (front ++ others)) → AllWithin (λ b. eqb b sep ≡ false) (front ++ others) 0 i → (i < length (front ++ others) → HoldsAt (λ b. eqb b sep ≡ true) (front ++ others) i)
      → 0 < length (front ++ others) → pieces sep (front ++ others) ≡ unended sep front ∷ pieces sep others
  first_of [] others i n none hit some = absurd (omega arith)
  first_of (b ∷ []) others zero n none hit some =
      let e = hit (omega arith) 0 in
      cond-true (eqb b sep) _ _ e ∙ ap (λ l. l ∷ pieces sep others) (sym (cond-true (eqb b sep) [] (b ∷ []) e))
  first_of (b ∷ []) [] (suc j) n none hit some =
      let e = none 0 0 (omega arith) (omega arith) in
      cond-false (eqb b sep) _ _ e ∙ ap (λ l. l ∷ []) (sym (cond-false (eqb b sep) [] (b ∷ []) e))
  first_of (b ∷ []) (o ∷ os) (suc j) n none hit some = absurd (omega arith)
  first_of (b ∷ c ∷ bs) others zero n none hit some = absurd (omega arith)
  first_of (b ∷ c ∷ bs) others (suc j) n none hit some =
      cond-false (eqb b sep) _ _ (none 0 0 (omega arith) (omega arith)) ∙ ap (before b) (first_of (c ∷ bs) others j (omega arith) (λ k d l m. none (suc k) d (omega arith) (omega arith)) (λ m. hit (omega arith)) (omega arith))

  -- the same, of what is left to cut
  first_piece : (rest front others : List ℕ) (i : ℕ) → rest ≡ front ++ others → length front ≡ min (i + 1) (length rest) → IsFirstMatchOrLen (λ b. eqb b sep) rest i → 0 < length rest → pieces sep rest ≡ unended sep front ∷ pieces sep others
  first_piece rest front others i e n m some =
      let k = subst (λ z. IsFirstMatchOrLen (λ b. eqb b sep) z i) e m in
      ap (pieces sep) e ∙ first_of front others i (subst (λ z. length front ≡ min (i + 1) (length z)) e n) k.0 k.1 (subst (λ z. 0 < length z) e some)

  stripped : (bs : List ℕ) (n : ℕ) → length bs ≡ n + 1 → pointwise eqb (drop n bs) (sep ∷ []) ≡ true → take n bs ≡ unended sep bs
  stripped [] n e h = absurd (omega arith)
  stripped (b ∷ []) zero e h = sym (cond-true (eqb b sep) [] (b ∷ []) (and_first (eqb b sep) h))
  stripped (b ∷ []) (suc n) e h = absurd (omega arith)
  stripped (b ∷ c ∷ bs) zero e h = absurd (omega arith)
  stripped (b ∷ c ∷ bs) (suc n) e h = ap (λ l. b ∷ l) (stripped (c ∷ bs) n (omega arith) h)

  unstripped : (bs : List ℕ) (n : ℕ) → length bs ≡ n + 1 → pointwise eqb (drop n bs) (sep ∷ []) ≡ false → bs ≡ unended sep bs
  unstripped [] n e h = refl
  unstripped (b ∷ []) zero e h = sym (cond-false (eqb b sep) [] (b ∷ []) (and-not (eqb b sep) h))
  unstripped (b ∷ []) (suc n) e h = absurd (omega arith)
  unstripped (b ∷ c ∷ bs) zero e h = absurd (omega arith)
  unstripped (b ∷ c ∷ bs) (suc n) e h = ap (λ l. b ∷ l) (unstripped (c ∷ bs) n (omega arith) h)

  -- a piece, or what is left of it where it ends with the separator
  pub left_of : (r : Option (Bor (List ℕ))) (piece : Bor (List ℕ)) → MatchOption r (pointwise eqb (drop (length piece.now - 1) piece.now) (sep ∷ []) ≡ false) (λ x. (pointwise eqb (drop (length piece.now - 1) piece.now) (sep ∷ []) ≡ true) × (x.now ≡ take (length piece.now - 1) piece.now) × (length x.now + 1 ≡ length piece.now))
      → (unwrap_or r piece).now ≡ unended sep piece.now
  left_of None piece h = none piece.now h where
    none : (bs : List ℕ) → pointwise eqb (drop (length bs - 1) bs) (sep ∷ []) ≡ false → bs ≡ unended sep bs
    none [] k = refl
    none (b ∷ bs) k = unstripped (b ∷ bs) (length (b ∷ bs) - 1) (omega arith) k
  left_of (Some x) piece h = h.1 ∙ stripped piece.now (length piece.now - 1) (omega (arith, h.2)) h.0

  module _ {F G : Type 0} (g : Mut F (Bor ℕ × Unit {0}) Bool) (h : Mut G (Bor (List ℕ) × Unit {0}) (Bor (List ℕ))) where
    -- what a step of `split_inclusive` cuts off
    abbrev pub cut_steps : SplitInclusive ℕ F → Option (Bor (List ℕ)) → SplitInclusive ℕ F → Type 0
    cut_steps s r t = MatchOption r ((length (split_inclusive_rest s) ≡ 0) × (t ≡ s))
        (λ x. (split_inclusive_rest s ≡ x.now ++ split_inclusive_rest t) × ((i : ℕ) × (length x.now ≡ min (i + 1) (length (split_inclusive_rest s))) × ((p : ℕ → Bool) → ComputesKey g p (split_inclusive_callee s) → ComputesKey g p (split_inclusive_callee t) × IsFirstMatchOrLen p (split_inclusive_rest s) i)) × (0 < length (split_inclusive_rest s)))

    -- a piece is cut off with the separator that ends it, and then that is taken off
    pub yields_pieces : {s : _} {f : F} {k : G} (bs : List ℕ) → split_inclusive_rest (map_source s) ≡ bs → split_inclusive_callee (map_source s) ≡ f → map_callee s ≡ k
        → ((x : ℕ) (b : Bool) (q : F) → CalledAt g f x b q → (q ≡ f) × (b ≡ eqb x sep))
        → ((x r : Bor (List ℕ)) (q : G) → Called h k (x, tt) r q → (q ≡ k) × (r.now ≡ unended sep x.now))
        → YieldsList (maps cut_steps h) (λ x. x.now) s (pieces sep bs)
    yields_pieces {s} {f} {k} bs rest closure mapped tests calls =
        subst (λ z. YieldsList (maps cut_steps h) (λ x. x.now) s (pieces sep z)) rest
        (YieldsList-from_shown_while (maps cut_steps h) (λ x. x.now) (λ t. pieces sep (split_inclusive_rest (map_source t))) (λ t. ComputesKey g (λ b. eqb b sep) (split_inclusive_callee (map_source t)) × (map_callee t ≡ k))
        (λ t u p e. ap (λ l. length (pieces sep l)) (nil_from_length (split_inclusive_rest (map_source t)) e.0.0))
        (λ t y u p e.
        let cut = e.1 in
        let found = cut.1.2 (λ b. eqb b sep) p.0 in
        let made = calls e.0 y (map_callee u) (subst (λ z. Called h z (e.0, tt) y (map_callee u)) p.1 e.2) in
        ((found.0, made.0), first_piece _ e.0.now _ cut.1.0 cut.0 cut.1.1 found.1 cut.2 ∙ ap (λ l. l ∷ pieces sep (split_inclusive_rest (map_source u))) (sym made.1)))
        s (subst (ComputesKey g (λ b. eqb b sep)) (sym closure) (always_returns_same g (λ a r. r ≡ eqb a.0.now sep) f (λ a r q c. let m = tests a.0.now r q (record { shown = a.0; shows = refl; called = c }) in (m.1, m.0))), mapped))
