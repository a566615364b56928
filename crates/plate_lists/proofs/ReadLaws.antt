-- Texts that are read one after the other: what is left of them answers for the whole. Assumes nothing.
use Rattle.std.proofs.Common.{◌≡◌, ℕ, zero, suc, List, [], ◌∷◌, ◌++◌, sym, refl, ap, ◌∙◌, append_assoc}
use Rattle.std.proofs.lemmas.List.{append-nil}
use Rattle.format.specs.Answers.{Answer, Fault, good, bad, both, inside}
use Rattle.format.specs.Sheets.{Word, Read, read_at, text_form, ended}
use Rattle.format.proofs.AnswerLaws.{both-good, both-bad}
use Rattle.plate_lists.specs.Lists.{Texts, with_word, texts_at, list_words}

-- the answer where ws are the words so far, and n texts are left from p on
abbrev pub rest : List Word → ℕ → List ℕ → ℕ → Answer (List Word)
rest ws n s p = both (inside (texts_at n s p)) (λ t. both (ended s t.end) (λ _. good (ws ++ t.words)))

module _ (s : List ℕ) where
  module _ (ws : List Word) (m p : ℕ) (whole : rest ws m s p ≡ list_words s) where
    module _ (n : ℕ) (one : m ≡ suc n) where
      -- a text is read, and then the others
      next : rest ws (suc n) s p ≡ both (inside (read_at text_form s p)) (λ r. rest (ws ++ r.word ∷ []) n s r.end)
      next = first (read_at text_form s p) where
        others : (w : Word) (y : Answer Texts) → both (inside (both y (λ t. good (with_word w t)))) (λ t. both (ended s t.end) (λ _. good (ws ++ t.words))) ≡ both (inside y) (λ t. both (ended s t.end) (λ _. good ((ws ++ w ∷ []) ++ t.words)))
        others w (good t) = ap (λ vs. both (ended s t.end) (λ _. good vs)) (sym (append_assoc ws (w ∷ []) t.words))
        others w (bad f) = refl

        first : (x : Answer Read) → both (inside (both x (λ r. both (texts_at n s r.end) (λ t. good (with_word r.word t))))) (λ t. both (ended s t.end) (λ _. good (ws ++ t.words))) ≡ both (inside x) (λ r. rest (ws ++ r.word ∷ []) n s r.end)
        first (good r) = others r.word (texts_at n s r.end)
        first (bad f) = refl

      all : both (inside (read_at text_form s p)) (λ r. rest (ws ++ r.word ∷ []) n s r.end) ≡ list_words s
      all = sym next ∙ (ap (λ k. rest ws k s p) (sym one) ∙ whole)

      pub rest_more : (r : Read) (vs : List Word) → good r ≡ inside (read_at text_form s p) → vs ≡ ws ++ r.word ∷ [] → rest vs n s r.end ≡ list_words s
      rest_more r vs e d = ap (λ z. rest z n s r.end) d ∙ (sym (both-good (inside (read_at text_form s p)) r _ (sym e)) ∙ all)

      pub text-bad : (f : Fault) → bad f ≡ inside (read_at text_form s p) → bad f ≡ list_words s
      text-bad f e = sym (both-bad (inside (read_at text_form s p)) f _ (sym e)) ∙ all

    module _ (none : m ≡ zero) where
      last : both (ended s p) (λ _. good (ws ++ [])) ≡ list_words s
      last = ap (λ k. rest ws k s p) (sym none) ∙ whole

      pub rest_none : (e : ℕ) → good e ≡ ended s p → good ws ≡ list_words s
      rest_none e h = ap good (sym (append-nil ws)) ∙ (sym (both-good (ended s p) e _ (sym h)) ∙ last)

      pub end-bad : (f : Fault) → bad f ≡ ended s p → bad f ≡ list_words s
      end-bad f h = sym (both-bad (ended s p) f _ (sym h)) ∙ last
