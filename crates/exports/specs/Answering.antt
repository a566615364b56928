-- What the calls on sheets and archives answer, by the name of a kind and the letter of a byte order. Assumes nothing.
use Rattle.std.specs.Prelude.{ℕ, List, length, Option, Some, None}
use Rattle.format.specs.Answers as answers
use Rattle.format.specs.Answers.{good, bad, both}
use Rattle.format.specs.Archive as archives
use Rattle.format.specs.Archive.{found_target, found_items, found_text}
use Rattle.naming.specs.Senses.{Sense, sense_of}
use Rattle.catalogue.specs.Orders.{order_of, order_named}
use Rattle.catalogue.specs.declared.order.Order.{Order}
use Rattle.exports.specs.declared.answer.Answer.{Answer}
use Rattle.exports.specs.declared.answer.Told.{Told}
use Rattle.exports.specs.Numbers.{in_numbers, refused, unmade}

-- a call that tells one number
abbrev pub one : answers.Answer ℕ → Answer
one a = in_numbers (both a (λ n. good (record { value = n; count = 0 })))

-- each call, of a kind
abbrev pub scanned : List ℕ → Sense → Answer
scanned sheet k = one (k.meaning.scan sheet)

abbrev pub checked : List ℕ → ℕ → Sense → Answer
checked archive place k = one (archives.is_valid k.meaning archive place)

abbrev pub checked_deeply : List ℕ → ℕ → Sense → Answer
checked_deeply archive place k = one (archives.is_valid_deep k.meaning archive place)

-- a place, and of items how many they are, of a text its length
abbrev pub of_found : archives.Found → Told
of_found (found_target p) = record { value = p; count = 0 }
of_found (found_items s) = record { value = s.place; count = s.count }
of_found (found_text x) = record { value = x.place; count = length x.bytes }

-- one step, which a kind that leads nowhere has not
abbrev pub stepped_by : Option (List ℕ → ℕ → answers.Answer archives.Found) → List ℕ → ℕ → Sense → Answer
stepped_by None archive place k = unmade 102
stepped_by (Some step) archive place k = in_numbers (both (archives.get k.meaning step archive place) (λ f. good (of_found f)))

abbrev pub stepped : List ℕ → ℕ → Sense → Answer
stepped archive place k = stepped_by k.step archive place k

-- the answer to a copy, and the output after it
pub record Copied : Type 0 where
  pub answer : Answer
  pub output : List ℕ

abbrev pub copied : List ℕ → ℕ → List ℕ → Sense → Copied
copied archive place out k = let c = archives.copy_out k.meaning archive place out in record { answer = one c.answer; output = c.output }

-- what is answered by a call, or else why there is no kind to make it with
abbrev pub of_sense : {A : Type 0} → (Answer → A) → (Sense → A) → Option (answers.Answer Sense) → A
of_sense otherwise call None = otherwise (unmade 100)
of_sense otherwise call (Some (bad f)) = otherwise (refused f)
of_sense otherwise call (Some (good k)) = call k

-- the order is asked for first
abbrev pub of_order : {A : Type 0} → (Answer → A) → (Sense → A) → List ℕ → Option Order → A
of_order otherwise call name None = otherwise (unmade 101)
of_order otherwise call name (Some o) = of_sense otherwise call (sense_of (order_of o) name)

-- the answer to a call with the kind of a name, in the order of a letter
abbrev pub answers_by : (Sense → Answer) → List ℕ → ℕ → Answer
answers_by call name letter = of_order (λ a. a) call name (order_named letter)

-- the same of a copy: without a kind the output stays
abbrev pub copies_by : (List ℕ → Sense → Copied) → List ℕ → List ℕ → ℕ → Copied
copies_by call out name letter = of_order (λ a. record { answer = a; output = out }) (call out) name (order_named letter)
