-- What comes of the use of a name. Assumes nothing.
use Rattle.std.specs.Prelude.{◌≡◌, Option, Some, None, Result, Ok, Err}
use Rattle.format.specs.Answers.{Answer, good, bad}
use Rattle.refusal.specs.Told.{fault_of}
use Rattle.refusal.specs.declared.refusal.Refusal.{Refusal}
use Rattle.naming.specs.Senses.{Sense}
use Rattle.catalogue.specs.declared.missing.Missing.{Missing}
use Rattle.catalogue.specs.declared.missing.Missing.TheVariants.{NoKind, Refused}

-- what a name is answered that means this, where the use `u` becomes `v`: only a kind is used, and what then is answered the use tells
abbrev pub Used : {U A : Type 0} → (U → Sense → A → U → Type 0) → Option (Answer Sense) → U → Result A Missing → U → Type 0
Used tells None u r v = (r ≡ Err NoKind) × (v ≡ u)
Used tells (Some (bad f)) u r v = (e : Refusal) × (r ≡ Err (Refused e)) × (fault_of e ≡ f) × (v ≡ u)
Used {A = A} tells (Some (good k)) u r v = (a : A) × (r ≡ Ok a) × tells u k a v
