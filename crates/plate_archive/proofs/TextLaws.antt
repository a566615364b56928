-- What one step finds is text. Assumes nothing.
use Rattle.std.proofs.Common.{◌≡◌, ℕ, ◌+◌, eqb, ◌⊎◌, List, [], inl, inr, refl, sym, ◌∙◌, ap, subst, MatchResult, IsOk, Result, Ok, Err, IsUtf8}
use Rattle.std.proofs.lemmas.Str.{IsUtf8-nil}
use Rattle.std.proofs.lemmas.Bool.{eq-eqb, ne_eqb, cases_eq}
use Rattle.format.specs.Places.{part}
use Rattle.format.specs.Orders.{Order}
use Rattle.format.specs.Recogniser.{is_text}
use Rattle.format.specs.Answers.{good}
use Rattle.format.specs.Texts.{Part, text_kind, text_at, if_text}
use Rattle.format.specs.Archive.{found_text, rooted, get, text_step}
use Rattle.format.proofs.AnswerLaws.{unless-true, unless-false, both_parts, unless_parts, good-same}
use Rattle.format.proofs.TextLaws.{text_decided}
use Rattle.format.proofs.GrammarUtf8.{text_utf8}

-- the text of a head is text
pub text_at-utf8 : (o : Order) (a : List ℕ) (p : ℕ) (x : Part) → text_at o a p ≡ good x → IsUtf8 x.bytes
text_at-utf8 o a p x h = go (cases_eq n 0) where
  n : ℕ
  n = o.take_back (part p 4 a)

  go : (n ≡ 0) ⊎ (n ≡ 0 → ⊥) → IsUtf8 x.bytes
  go (inl none) =
      let is : good (record { place = p + 4; bytes = [] }) ≡ good x = sym (unless-true (eqb n 0) _ _ (eq-eqb n 0 none)) ∙ h in
      subst IsUtf8 (ap (λ (x : Part). x.bytes) (good-same _ _ is)) IsUtf8-nil
  go (inr some) =
      let found = both_parts _ (λ q. if_text a p q n) x (sym (unless-false (eqb n 0) _ _ (ne_eqb n 0 some)) ∙ h) in
      let judged = unless_parts (is_text (part found.0 n a)) _ _ x found.1.1 in
      subst IsUtf8 (ap (λ (x : Part). x.bytes) (good-same _ _ judged.1)) (text_utf8 (part found.0 n a) ((text_decided (part found.0 n a)).0 judged.0))

-- so is what one step from it finds
pub found_text-utf8 : (o : Order) (a : List ℕ) (p : ℕ) (x : Part) → good (found_text x) ≡ get (text_kind o) (text_step o) a p → IsUtf8 x.bytes
found_text-utf8 o a p x h =
    let stepped = both_parts (rooted (text_kind o) a p) (λ _. text_step o a p) (found_text x) (sym h) in
    let found = both_parts (text_at o a p) (λ y. good (found_text y)) (found_text x) stepped.1.1 in
    let e = found.1.1 in
    let is : found.0 ≡ x = cc in
    subst (λ (y : Part). IsUtf8 y.bytes) is (text_at-utf8 o a p found.0 found.1.0)

pub ok_unless : {A E : Type 0} (r : Result A E) (P : A → Type 0) (Q : E → Type 0) → ((e : E) → Q e → ⊥) → MatchResult r P Q → IsOk r
ok_unless (Ok x) P Q k h = refl
ok_unless (Err e) P Q k h = absurd (k e h)
