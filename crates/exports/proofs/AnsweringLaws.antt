-- From what a use tells to the five numbers. Assumes nothing.
use Rattle.std.proofs.Common.{◌≡◌, ℕ, List, Option, Some, None, Result, Ok, Err, refl, sym, ap, ◌∙◌, subst}
use Rattle.format.specs.Answers as answers
use Rattle.format.specs.Answers.{good, bad}
use Rattle.naming.specs.Senses.{Sense, sense_of}
use Rattle.catalogue.specs.Orders.{order_of}
use Rattle.catalogue.specs.Used.{Used}
use Rattle.catalogue.specs.declared.order.Order.{Order}
use Rattle.catalogue.specs.declared.missing.Missing.{Missing}
use Rattle.catalogue.specs.declared.missing.Missing.TheVariants as missing
use Rattle.exports.specs.declared.answer.Answer.{Answer}
use Rattle.exports.specs.declared.answer.Told.{Told}
use Rattle.exports.specs.declared.answer.Trouble.{Trouble}
use Rattle.exports.specs.Numbers.{answer_of, trouble_of, refused}
use Rattle.exports.specs.declared.calls.CopyOut.{CopyOut}
use Rattle.exports.specs.Answering.{Copied, copied, of_sense, of_order}
use Rattle.exports.specs.Making.{Made, MadeIn, Copies}

module _ {U : Type 0} (tells : U → Sense → Result Told Trouble → U → Type 0) (u : U) (r : Result Told Trouble) (v : U) where
  pub made_ok : (s : Option (answers.Answer Sense)) → Used tells s u (Ok r) v → Made tells u r v s
  made_ok None h = absurd (cc (h.0))
  made_ok (Some (bad f)) (e, is, fault, same) = absurd (cc is)
  made_ok (Some (good k)) (a, is, told) = let same : a ≡ r = cc is in subst (λ x. tells u k x v) same told

  pub made_err : (e : Missing) (s : Option (answers.Answer Sense)) → Used tells s u (Err e) v → r ≡ Err (trouble_of e) → Made tells u r v s
  made_err e None (is, same) h = let no : e ≡ missing.NoKind = cc is in (ap answer_of h ∙ ap (λ x. answer_of (Err (trouble_of x))) no, same)
  made_err e (Some (bad f)) (x, is, fault, same) h =
      let why : e ≡ missing.Refused x = cc is in
      (ap answer_of h ∙ ap (λ y. answer_of (Err (trouble_of y))) why ∙ ap refused fault, same)
  made_err e (Some (good k)) (a, is, told) h = absurd (cc is)

-- where the use tells just what a call answers of a kind
module _ {U : Type 0} (call : U → Sense → Answer) (u : U) (r : Result Told Trouble) (v : U) where
  pub answered_of : (s : Option (answers.Answer Sense)) → Made (λ u k r v. answer_of r ≡ call u k) u r v s → answer_of r ≡ of_sense (λ a. a) (call u) s
  answered_of None h = h.0
  answered_of (Some (bad f)) h = h.0
  answered_of (Some (good k)) h = h

  pub answered :
      (name : List ℕ) (o : Option Order) → MadeIn (λ u k r v. answer_of r ≡ call u k) u r v name o → answer_of r ≡ of_order (λ a. a) (call u) name o
  answered name None h = h.0
  answered name (Some o) h = answered_of (sense_of (order_of o) name) h

abbrev both : Answer → List ℕ → Copied
both a s = record { answer = a; output = s }

-- of a copy, where the output that was lent ends as `x`
module _ (u : CopyOut) (r : Result Told Trouble) (v : CopyOut) (x : List ℕ) (ends : u.output.ghost_name ≡ v.output.ghost_name → x ≡ v.output.now) where
  kept : v ≡ u → x ≡ u.output.now
  kept same = ends (ap (λ w. w.output.ghost_name) (sym same)) ∙ ap (λ w. w.output.now) same

  both_are : (a b : Answer) (s t : List ℕ) → a ≡ b → s ≡ t → both a s ≡ both b t
  both_are a b s t e f = rw (e, f) refl

  pub copied_of :
      (s : Option (answers.Answer Sense)) → Made Copies u r v s →
      both (answer_of r) x ≡ of_sense (λ a. both a u.output.now) (copied u.root.archive.now u.root.place u.output.now) s
  copied_of None h = both_are _ _ _ _ h.0 (kept h.1)
  copied_of (Some (bad f)) h = both_are _ _ _ _ h.0 (kept h.1)
  copied_of (Some (good k)) h = ap (both (answer_of r)) (ends (sym h.1)) ∙ h.0

  pub copied_in :
      (name : List ℕ) (o : Option Order) → MadeIn Copies u r v name o →
      both (answer_of r) x ≡ of_order (λ a. both a u.output.now) (copied u.root.archive.now u.root.place u.output.now) name o
  copied_in name None h = both_are _ _ _ _ h.0 (kept h.1)
  copied_in name (Some o) h = copied_of (sense_of (order_of o) name) h

  pub copied_end :
      (a : Answer) → a ≡ answer_of r → (name : List ℕ) (o : Option Order) → MadeIn Copies u r v name o →
      both a x ≡ of_order (λ a. both a u.output.now) (copied u.root.archive.now u.root.place u.output.now) name o
  copied_end a e name o h = ap (λ b. both b x) e ∙ copied_in name o h
