-- What is told at the exit of a `?`. Assumes nothing.
use Rattle.std.proofs.Common.{◌≡◌, IsErrAnd, Ok, Err, Result, sym, subst}
use Rattle.format.specs.Answers.{Answer, Fault, bad}
use Rattle.refusal.specs.Told.{fault_of}
use Rattle.plate_lists.specs.declared.error.ListError.{ListError}
use Rattle.plate_lists.specs.declared.error.ListError.TheVariants.{Memory, Refused, NoCast}
use Rattle.plate_lists.specs.Told.{Tells, TellsError}

pub tells_error : {A B : Type 0} (f : A → B) (r : Result A ListError) (a : Answer B) (x : ListError) → IsErrAnd r (λ e. e ≡ x) → TellsError x a → Tells f r a
tells_error f (Ok v) a x h t = absurd h
tells_error f (Err e) a x h t = subst (λ z. TellsError z a) (sym h) t

pub tells_same : {A B : Type 0} (f : A → B) (r : Result A ListError) (a b : Answer B) → a ≡ b → Tells f r a → Tells f r b
tells_same f r a b e t = subst (Tells f r) e t

-- an error of a part is one of the whole, where the part's refusal is one of the whole
pub tells_on : {A B : Type 0} (x : ListError) (a : Answer A) (b : Answer B) → ((e : Fault) → bad e ≡ a → bad e ≡ b) → TellsError x a → TellsError x b
tells_on Memory a b k t = tt
tells_on NoCast a b k t = absurd t
tells_on (Refused r) a b k t = k (fault_of r) t
