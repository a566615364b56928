-- The whole life of a builder, by its calls in bytes. Assumes nothing.
use Rattle.std.specs.Prelude.{ℕ, ◌+◌, ◌-◌, List, [], ◌∷◌, length, Option, Some, None}
use Rattle.format.specs.Answers as answers
use Rattle.format.specs.Answers.{good, bad}
use Rattle.format.specs.Builder as builders
use Rattle.format.specs.Builder.{Builder, new, Call, After, step}
use Rattle.catalogue.specs.Orders.{order_named}
use Rattle.exports.specs.declared.answer.Answer.{Answer}
use Rattle.exports.specs.Numbers.{telling, refused}
use Rattle.exports.specs.Answering.{one, of_order}
use Rattle.exports.specs.Calls.{Front, Event, known, named, Asked, event, finish, first_call}

-- a call that answers in five numbers
abbrev pub in_answer : After (answers.Answer ℕ) → After Answer
in_answer x = record { answer = one x.answer; builder = x.builder; buffer = x.buffer }

abbrev pub called : Builder → List ℕ → Call → After Answer
called b buf c = in_answer (step c b buf)

-- what an event leaves; without the kind that it is of, builder and buffer stay
abbrev pub made : Builder → List ℕ → Event → After Answer
made b buf (known c) = called b buf c
made b buf (named kind order c) = of_order (λ a. record { answer = a; builder = b; buffer = buf }) (λ k. called b buf (c k.meaning)) kind (order_named order)

-- how a life goes on: why it stops before a call, how many it makes, the bytes behind them, and the buffer and all answers afterwards
pub record Course : Type 0 where
  pub stopped : Option ℕ
  pub made : ℕ
  pub behind : List ℕ
  pub buffer : List ℕ
  pub answers : List Answer

-- no life stops where there are no more calls: it is over
abbrev pub stop : ℕ → List ℕ → Option ℕ
stop why [] = None
stop why (b ∷ bs) = Some why

-- a call's answer, and how a life goes on behind it
abbrev pub then_on : Answer → Course → Course
then_on a c = record { stopped = c.stopped; made = 1 + c.made; behind = c.behind; buffer = c.buffer; answers = a ∷ c.answers }

-- what comes of a call: given the answers behind its own, and how a life goes on behind it
module _ (rest : List Answer) (on : Builder → List ℕ → List ℕ → Course) where
  abbrev pub by : Builder → List ℕ → List ℕ → Asked → Course
  by b buf calls (event e) = let x = made b buf e in then_on x.answer (on x.builder x.buffer calls)
  by b buf calls finish =
      let f = builders.finish b in
      record { stopped = None; made = 1; behind = calls; buffer = buf; answers = telling f.length f.alignment ∷ rest }

  -- a call that can't be read stops the life, and its answer stays
  abbrev pub next : Answer → Builder → List ℕ → List ℕ → Option (Front Asked) → Course
  next a b buf calls None = record { stopped = stop 103 calls; made = 0; behind = calls; buffer = buf; answers = a ∷ rest }
  next a b buf calls (Some x) = by b buf x.behind x.what

-- how a life goes on with these answers to write, on a builder and its buffer, by its calls; a call without an answer stops it
abbrev pub course : List Answer → Builder → List ℕ → List ℕ → Course
course [] b buf calls = record { stopped = stop 104 calls; made = 0; behind = calls; buffer = buf; answers = [] }
course (a ∷ rest) b buf calls = next rest (course rest) a b buf calls (first_call calls)

-- the answer of a life: how many calls it made, of how many bytes, and why and where it stopped
abbrev pub told : Option ℕ → ℕ → ℕ → Answer
told None calls bytes = telling calls bytes
told (Some why) calls bytes = record { refusal = why; place = bytes; depth = 0; value = calls; count = bytes }

-- what a life answers, and the buffer and all answers after it
pub record Lived : Type 0 where
  pub answer : Answer
  pub buffer : List ℕ
  pub answers : List Answer

abbrev pub over : List ℕ → Course → Lived
over calls c = record { answer = told c.stopped c.made (length calls - length c.behind); buffer = c.buffer; answers = c.answers }

-- a life that can't begin changes nothing
abbrev pub begun : List ℕ → List ℕ → List Answer → answers.Answer Builder → Lived
begun calls buf xs (bad f) = record { answer = refused f; buffer = buf; answers = xs }
begun calls buf xs (good b) = over calls (course xs b buf calls)

abbrev pub life : List ℕ → List ℕ → List Answer → Lived
life calls buf xs = begun calls buf xs (new buf)
