-- A list is accepted or refused as the kind "slice of text" scans it. Assumes nothing.
use Rattle.std.proofs.Common.{◌≡◌, ℕ, zero, suc, ◌+◌, ◌≤◌, Bool, true, false, leb, List, length, drop, sym, refl, ap, ◌∙◌, add-zero, add_assoc, zero-add, arith, length-drop}
use Rattle.std.proofs.lemmas.List.{drop-drop}
use Rattle.std.proofs.lemmas.Bool.{leb-true}
use Rattle.format.specs.Orders.{Order}
use Rattle.format.specs.Answers.{Answer, good, bad, fault, both, unless, inside, shifted}
use Rattle.format.specs.Sheets.{slice_mark, text_mark, number_of, marked, scan_text, text_of, Word, text_word, count_word, Read, at_place, ended}
use Rattle.format.specs.Items.{scan_items}
use Rattle.format.specs.Texts.{text_kind}
use Rattle.format.proofs.SheetLaws.{marked-end, scan_text-end}
use Rattle.plate_lists.specs.Lists.{Texts, with_word, texts_at, count_of, ScansAsKind}

-- a scan behind another is a scan from where that one ends
shifted-twice : (p e : ℕ) (y : Answer ℕ) → shifted (p + e) (both y (λ r. good (p + e + r))) ≡ shifted p (both (shifted e (both y (λ r. good (e + r)))) (λ k. good (p + k)))
shifted-twice p e (good r) = ap good (add_assoc p e r)
shifted-twice p e (bad f) = ap (λ z. bad (record { number = f.number; place = z; depth = f.depth })) (add_assoc p e f.place)

module _ (s : List ℕ) where
  abbrev end_of : Answer Texts → Answer ℕ
  end_of y = both y (λ t. good t.end)

  -- texts that are read end within the sheet
  abbrev Within : Answer Texts → Type 0
  Within (good t) = t.end ≤ length s
  Within (bad f) = Unit {0}

  -- one more text, by what is scanned of it
  abbrev one_more : ℕ → ℕ → Answer ℕ → Answer Texts
  one_more n p x = both {A = Read} (both (shifted p (both x (λ e. good (p + e)))) (λ e. good (record { word = text_word p (text_of (drop p s)); end = e }))) (λ r. both (texts_at n s r.end) (λ t. good (with_word r.word t)))

  within_more : (w : Word) (y : Answer Texts) → Within y → Within (both y (λ t. good (with_word w t)))
  within_more w (good t) h = h
  within_more w (bad f) h = h

  texts_within : (n p : ℕ) → p ≤ length s → Within (texts_at n s p)
  texts_within zero p h = h
  texts_within (suc n) p h = go (scan_text text_mark (drop p s)) refl (λ q l. texts_within n q l) where
    go : (x : Answer ℕ) → scan_text text_mark (drop p s) ≡ x → ((q : ℕ) → q ≤ length s → Within (texts_at n s q)) → Within (one_more n p x)
    go (good e) k others =
        let ends = scan_text-end text_mark (drop p s) e k in
        let l = length-drop p s in
        within_more (text_word p (text_of (drop p s))) (texts_at n s (p + e)) (others (p + e) (omega (arith, ends.0, ends.1)))
    go (bad f) k others = tt

  -- where texts end is all that a scan says of them
  same_end : (w : Word) (y : Answer Texts) → end_of (both y (λ t. good (with_word w t))) ≡ end_of y
  same_end w (good t) = refl
  same_end w (bad f) = refl

  module _ (o : Order) where
    texts_scanned : (n p : ℕ) → end_of (texts_at n s p) ≡ at_place (scan_items (text_kind o) n) s p
    texts_scanned zero p = ap good (sym (add-zero p))
    texts_scanned (suc n) p = go (scan_text text_mark (drop p s)) (λ q. texts_scanned n q) where
      go : (x : Answer ℕ) → ((q : ℕ) → end_of (texts_at n s q) ≡ at_place (scan_items (text_kind o) n) s q) → end_of (one_more n p x) ≡ shifted p (both (both x (λ e. shifted e (both (scan_items (text_kind o) n (drop e (drop p s))) (λ r. good (e + r))))) (λ e. good (p + e)))
      go (good e) others =
          same_end (text_word p (text_of (drop p s))) (texts_at n s (p + e)) ∙
          (others (p + e) ∙
          (shifted-twice p e (scan_items (text_kind o) n (drop (p + e) s)) ∙
          ap (λ v. shifted p (both (shifted e (both (scan_items (text_kind o) n v) (λ r. good (e + r)))) (λ k. good (p + k)))) (sym (drop-drop e p s))))
      go (bad f) others = refl

  -- a sheet that ends with its texts
  abbrev whole : Answer Texts → Answer (List Word)
  whole y = both (inside y) (λ t. both (ended s t.end) (λ _. good t.words))

  accepted : (y : Answer Texts) → Within y → both (whole y) (λ _. good (length s)) ≡ both (inside (end_of y)) (ended s)
  accepted (bad f) h = refl
  accepted (good t) h = go (leb (length s) t.end) refl where
    go : (b : Bool) → leb (length s) t.end ≡ b → both (both (unless b (fault 15 t.end) (good t.end)) (λ _. good t.words)) (λ _. good (length s)) ≡ unless b (fault 15 t.end) (good t.end)
    go true k = let l = leb-true (length s) t.end k in let m : length s ≡ t.end = omega arith in ap good m
    go false k = refl

  pub scans_as_kind : ScansAsKind s
  scans_as_kind o = go (marked slice_mark 4 s) refl where
    n : ℕ
    n = number_of 4 s

    go : (x : Answer ℕ) → marked slice_mark 4 s ≡ x → both (both {A = Read} (both (shifted 0 (both x (λ e. good (0 + e)))) (λ e. good (record { word = count_word 0 n; end = e }))) (λ r. whole (texts_at (count_of r.word) s r.end))) (λ _. good (length s))
        ≡ both (both x (λ e. inside (at_place (scan_items (text_kind o) n) s e))) (ended s)
    go (good e) k =
        let ends = marked-end slice_mark 4 s e k in
        ap (λ q. both (whole (texts_at n s q)) (λ _. good (length s))) (zero-add e) ∙
        (accepted (texts_at n s e) (texts_within n e (omega (arith, ends.0, ends.1))) ∙ ap (λ y. both (inside y) (ended s)) (texts_scanned o n e))
    go (bad f) k = ap (λ z. bad (record { number = f.number; place = z; depth = f.depth })) (zero-add f.place)
