-- What the calls of the code say, in the words of `Calls`. Assumes nothing.
use Rattle.std.specs.Prelude.{◌≡◌, ℕ, List, Option, Some, None, Result}
use Rattle.std.specs.Option.{option_map}
use Rattle.std.specs.Borrow.{Bor}
use Rattle.format.specs.Meaning.{Meaning}
use Rattle.format.specs.Builder.{Call, After, align, reserve, reserve_bytes, write, push, push_bytes, build}
use Rattle.builder.specs.declared.ZeroBuilder.{ZeroBuilder}
use Rattle.builder.specs.Model.{model, after}
use Rattle.naming.specs.Senses.{Sense}
use Rattle.exports.specs.declared.answer.Answer.{Answer}
use Rattle.exports.specs.declared.answer.Told.{Told}
use Rattle.exports.specs.declared.answer.Trouble.{Trouble}
use Rattle.exports.specs.declared.event.Waiting.{Waiting}
use Rattle.exports.specs.declared.event.Event.{Event}
use Rattle.exports.specs.declared.event.Event.TheVariants as events
use Rattle.exports.specs.declared.event.KindEvent.{KindEvent}
use Rattle.exports.specs.declared.event.KindEvent.TheVariants.{Reserve, Push, Build}
use Rattle.exports.specs.declared.encoded.Parts.{Parts}
use Rattle.exports.specs.declared.encoded.Step.{Step}
use Rattle.exports.specs.declared.encoded.Step.TheVariants as steps
use Rattle.exports.specs.declared.life.Course.{Course}
use Rattle.exports.specs.Numbers.{why_not, answer_of}
use Rattle.exports.specs.Lives as lives
use Rattle.exports.specs.Lives.{called}
use Rattle.exports.specs.Calls as calls
use Rattle.exports.specs.Calls.{Front, known, named, Asked, event, finish}

-- what the code took off the front of bytes, where it left the bytes behind it
abbrev pub front : {A B : Type 0} → (A → B) → Option A → List ℕ → Option (Front B)
front f None s = None
front f (Some a) s = Some (record { what = f a; behind = s })

abbrev pub same : {A : Type 0} → A → A
same a = a

abbrev pub parts_of : Parts → calls.Parts
parts_of p = record { call = p.call; order = p.name.order; kind = p.name.kind.now; number = p.number; alignment = p.alignment; bytes = p.bytes.now }

abbrev pub of_kind : KindEvent → Meaning → Call
of_kind Reserve m = reserve m
of_kind (Push xs) m = push m xs.now
of_kind (Build xs) m = build m xs.now

abbrev pub event_of : Event → calls.Event
event_of (events.Align a) = known (align a)
event_of (events.ReserveBytes n a) = known (reserve_bytes n a)
event_of (events.Write p xs) = known (write p xs.now)
event_of (events.PushBytes xs a) = known (push_bytes xs.now a)
event_of (events.OfKind name e) = named name.kind.now name.order (of_kind e)

abbrev pub asked_of : Step → Asked
asked_of (steps.Event e) = event (event_of e)
asked_of steps.Finish = finish

abbrev pub with_rest : Option (Step × Bor (List ℕ)) → Option (Front Asked)
with_rest None = None
with_rest (Some x) = Some (record { what = asked_of x.0; behind = x.1.now })

-- the answer, the builder and the buffer after an event
abbrev pub left_by : Result Told Trouble → ZeroBuilder → List ℕ → After Answer
left_by r b buf = after (answer_of r) b buf

-- what an event tells that waited for its kind: builder and buffer are still those that were lent
abbrev pub Waits : Waiting → Sense → Result Told Trouble → Waiting → Type 0
Waits u k r v =
    (left_by r v.builder.now v.buffer.now ≡ called (model u.builder.now) u.buffer.now (of_kind u.event.now k.meaning))
    × (v.builder.ghost_name ≡ u.builder.ghost_name)
    × (v.buffer.ghost_name ≡ u.buffer.ghost_name)

-- a life of the code, with the buffer and the answers after it
abbrev pub course_of : Course → List ℕ → List Answer → lives.Course
course_of c buf answers = record { stopped = option_map why_not c.stopped; made = c.made; behind = c.rest.now; buffer = buf; answers = answers }
