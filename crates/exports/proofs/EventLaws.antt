-- From what an event of a kind tells to what it leaves. Assumes nothing.
use Rattle.std.proofs.Common.{◌≡◌, ℕ, List, Option, Some, None, Result, refl, sym, ap, ◌∙◌}
use Rattle.format.specs.Answers as answers
use Rattle.format.specs.Answers.{good, bad}
use Rattle.format.specs.Builder.{Builder, After}
use Rattle.builder.specs.declared.ZeroBuilder.{ZeroBuilder}
use Rattle.builder.specs.Model.{model}
use Rattle.naming.specs.Senses.{Sense, sense_of}
use Rattle.catalogue.specs.Orders.{order_of}
use Rattle.catalogue.specs.declared.order.Order.{Order}
use Rattle.exports.specs.declared.answer.Answer.{Answer}
use Rattle.exports.specs.declared.answer.Told.{Told}
use Rattle.exports.specs.declared.answer.Trouble.{Trouble}
use Rattle.exports.specs.declared.event.Waiting.{Waiting}
use Rattle.exports.specs.Numbers.{answer_of}
use Rattle.exports.specs.Answering.{of_sense, of_order}
use Rattle.exports.specs.Making.{Made, MadeIn}
use Rattle.exports.specs.Lives.{called}
use Rattle.exports.specs.Steps.{of_kind, left_by, Waits}

pub by_model : {P : Type 0} {a b : ZeroBuilder} → (P → a ≡ b) → P → model a ≡ model b
by_model h p = ap model (h p)

abbrev whole : Answer → Builder → List ℕ → After Answer
whole a b buf = record { answer = a; builder = b; buffer = buf }

-- where builder and buffer that were lent end as `b` and `buf`
module _
    (u : Waiting) (r : Result Told Trouble) (v : Waiting) (b : Builder) (buf : List ℕ)
    (builder_ends : u.builder.ghost_name ≡ v.builder.ghost_name → b ≡ model v.builder.now)
    (buffer_ends : u.buffer.ghost_name ≡ v.buffer.ghost_name → buf ≡ v.buffer.now) where
  same : (a x : Answer) (c d : Builder) (s t : List ℕ) → a ≡ x → c ≡ d → s ≡ t → whole a c s ≡ whole x d t
  same a x c d s t e f h = rw (e, f, h) refl

  kept : (a : Answer) → answer_of r ≡ a → v ≡ u → whole (answer_of r) b buf ≡ whole a (model u.builder.now) u.buffer.now
  kept a e is =
      same _ _ _ _ _ _ e
      (builder_ends (ap (λ w. w.builder.ghost_name) (sym is)) ∙ ap (λ w. model w.builder.now) is)
      (buffer_ends (ap (λ w. w.buffer.ghost_name) (sym is)) ∙ ap (λ w. w.buffer.now) is)

  ended : v.builder.ghost_name ≡ u.builder.ghost_name → v.buffer.ghost_name ≡ u.buffer.ghost_name → whole (answer_of r) b buf ≡ left_by r v.builder.now v.buffer.now
  ended e f = same _ _ _ _ _ _ refl (builder_ends (sym e)) (buffer_ends (sym f))

  abbrev stays : Answer → After Answer
  stays a = whole a (model u.builder.now) u.buffer.now

  abbrev used : Sense → After Answer
  used k = called (model u.builder.now) u.buffer.now (of_kind u.event.now k.meaning)

  waited_of : (s : Option (answers.Answer Sense)) → Made Waits u r v s → whole (answer_of r) b buf ≡ of_sense stays used s
  waited_of None h = kept _ h.0 h.1
  waited_of (Some (bad f)) h = kept _ h.0 h.1
  waited_of (Some (good k)) h = ended h.1 h.2 ∙ h.0

  pub waited : (name : List ℕ) (o : Option Order) → MadeIn Waits u r v name o → whole (answer_of r) b buf ≡ of_order stays used name o
  waited name None h = kept _ h.0 h.1
  waited name (Some o) h = waited_of (sense_of (order_of o) name) h
