-- What the code makes of a call by a name, before it is told in five numbers. Assumes nothing.
use Rattle.std.specs.Prelude.{◌≡◌, ℕ, List, Option, Some, None, Result}
use Rattle.format.specs.Answers as answers
use Rattle.format.specs.Answers.{good, bad}
use Rattle.naming.specs.Senses.{Sense, sense_of}
use Rattle.catalogue.specs.Orders.{order_of}
use Rattle.catalogue.specs.declared.order.Order.{Order}
use Rattle.exports.specs.declared.answer.Told.{Told}
use Rattle.exports.specs.declared.answer.Trouble.{Trouble}
use Rattle.exports.specs.declared.calls.CopyOut.{CopyOut}
use Rattle.exports.specs.Numbers.{refused, unmade, answer_of}
use Rattle.exports.specs.Answering.{copied}

-- of a kind the use `u`, left as `v`, tells the outcome; without one it stays, and the outcome says why
abbrev pub Made : {U : Type 0} → (U → Sense → Result Told Trouble → U → Type 0) → U → Result Told Trouble → U → Option (answers.Answer Sense) → Type 0
Made tells u r v None = (answer_of r ≡ unmade 100) × (v ≡ u)
Made tells u r v (Some (bad f)) = (answer_of r ≡ refused f) × (v ≡ u)
Made tells u r v (Some (good k)) = tells u k r v

-- the same, where the order is asked for first
abbrev pub MadeIn : {U : Type 0} → (U → Sense → Result Told Trouble → U → Type 0) → U → Result Told Trouble → U → List ℕ → Option Order → Type 0
MadeIn tells u r v name None = (answer_of r ≡ unmade 101) × (v ≡ u)
MadeIn tells u r v name (Some o) = Made tells u r v (sense_of (order_of o) name)

-- what the use of a copy tells: the output is still the one that was lent
abbrev pub Copies : CopyOut → Sense → Result Told Trouble → CopyOut → Type 0
Copies u k r v =
    (record { answer = answer_of r; output = v.output.now } ≡ copied u.root.archive.now u.root.place u.output.now k) × (v.output.ghost_name ≡ u.output.ghost_name)
