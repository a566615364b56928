-- The use of a name, by that of a part of it, and by one list of forms after another. Assumes nothing.
use Rattle.std.proofs.Common.{◌≡◌, ℕ, List, ◌++◌, Option, Some, None, Result, Err, refl, sym, ap, ◌∙◌, subst}
use Rattle.std.specs.Option.{option_map, option_or}
use Rattle.std.specs.Cmp.Lexicographic.{pointwise}
use Rattle.std.proofs.lemmas.List.Folds.{find-append}
use Rattle.std.specs.Prelude.{nat_eq}
use Rattle.format.specs.Answers.{Answer, good, bad}
use Rattle.format.specs.Orders.{Order}
use Rattle.format.specs.Meaning.{counted}
use Rattle.format.specs.Texts.{inline_kind}
use Rattle.format.specs.Archive.{inline_step}
use Rattle.naming.specs.Forms.{Form, array, inline, spelled, named_among}
use Rattle.naming.specs.Senses.{Sense, leading, arrayed, meant}
use Rattle.catalogue.specs.declared.missing.Missing.{Missing}
use Rattle.catalogue.specs.declared.missing.Missing.TheVariants.{NoKind}
use Rattle.catalogue.specs.Used.{Used}

through : {A B C : Type 0} (f : B → C) (g : A → B) (o : Option A) → option_map (λ a. f (g a)) o ≡ option_map f (option_map g o)
through f g None = refl
through f g (Some a) = refl

module _ {U A : Type 0} (tells : U → Sense → A → U → Type 0) (sense : Form → Answer Sense) where
  -- what is used is held by another
  pub used_behind :
      (hold : Form → Form) (found inner : Option Form) (u : U) (r : Result A Missing) (v : U) → found ≡ option_map hold inner →
      Used tells (option_map (λ f. sense (hold f)) inner) u r v → Used tells (option_map sense found) u r v
  used_behind hold found inner u r v e h = subst (λ o. Used tells o u r v) (through sense hold inner ∙ sym (ap (option_map sense) e)) h

  -- of one list of forms and another behind it, the first that has the name
  pub used_first : (s t : Option (Answer Sense)) (u : U) (r : Result A Missing) (v : U) → (r ≡ Err NoKind → ⊥) → Used tells s u r v → Used tells (option_or s t) u r v
  used_first None t u r v n h = absurd (n h.0)
  used_first (Some s) t u r v n h = h

  pub used_second : (s t : Option (Answer Sense)) (u : U) (r : Result A Missing) (v w : U) → Used tells s u (Err NoKind) v → Used tells t v r w → Used tells (option_or s t) u r w
  used_second None t u r v w h k = subst (λ x. Used tells t x r w) h.1 k
  used_second (Some (bad f)) t u r v w (e, is, fault, same) k = cc
  used_second (Some (good x)) t u r v w (a, is, told) k = cc

either : {A B : Type 0} (f : A → B) (o p : Option A) → option_map f (option_or o p) ≡ option_or (option_map f o) (option_map f p)
either f None p = refl
either f (Some a) p = refl

pub sense_either :
    (sense : Form → Answer Sense) (xs ys : List Form) (name : List ℕ) →
    option_map sense (named_among (xs ++ ys) name) ≡ option_or (option_map sense (named_among xs name)) (option_map sense (named_among ys name))
sense_either sense xs ys name =
    ap (option_map sense) (find-append (λ f. pointwise nat_eq name (spelled f)) xs ys) ∙ either sense (named_among xs name) (named_among ys name)

-- an array of inline texts, at any numbers: at those of a name a rewrite would unfold each of them
pub used_inline_array :
    {U A : Type 0} (tells : U → Sense → A → U → Type 0) (holds : Answer Sense → Answer Sense) (o : Order) (found : Option Form) (n c v : ℕ) (u : U) (r : Result A Missing) (w : U) →
    found ≡ Some (array n (inline c)) → good v ≡ counted c →
    Used tells (Some (holds (arrayed n (good (leading (inline_kind v o) (inline_step v o)))))) u r w → Used tells (option_map (λ f. holds (meant o f)) found) u r w
used_inline_array tells holds o found n c v u r w f told h = rw (f, ← told) h
