-- A life, call by call: what is left of it answers for the whole. Assumes nothing.
use Rattle.std.proofs.Common.{◌≡◌, ℕ, ◌+◌, ◌<◌, List, [], ◌∷◌, ◌++◌, length, take, drop, get_or, set, Option, Some, None, refl, sym, ap, ◌∙◌, append_assoc, arith}
use Rattle.std.proofs.lemmas.List.{take-set, take-append-drop, take_more_set, drop-set, drop-set-lt, at_drop_more}
use Rattle.std.specs.Option.{option_map}
use Rattle.format.specs.Builder as builders
use Rattle.format.specs.Builder.{Builder, After}
use Rattle.exports.specs.declared.answer.Answer.{Answer}
use Rattle.exports.specs.declared.answer.NotMade.{NotMade}
use Rattle.exports.specs.Numbers.{telling, why_not}
use Rattle.exports.specs.Calls.{Front, Event, Asked, event, finish, first_call}
use Rattle.exports.specs.Lives.{Course, made, then_on, course, next}

abbrev pub here : Option ℕ → ℕ → List ℕ → List ℕ → List Answer → Course
here why n calls buf xs = record { stopped = why; made = n; behind = calls; buffer = buf; answers = xs }

-- a course behind n answers
abbrev pub after : ℕ → List Answer → Course → Course
after n xs c = here c.stopped (n + c.made) c.behind c.buffer (xs ++ c.answers)

alike : (why : Option ℕ) (calls buf : List ℕ) (m n : ℕ) (xs ys : List Answer) → m ≡ n → xs ≡ ys → here why m calls buf xs ≡ here why n calls buf ys
alike why calls buf m n xs ys e f = rw (e, f) refl

-- where a life has come to that has written i of its answers
abbrev pub left : List Answer → ℕ → Builder → List ℕ → List ℕ → Course
left xs i b buf calls = after i (take i xs) (course (drop i xs) b buf calls)

-- what is left of the life w answers for the whole, where n calls were made and it has not stopped
pub record Lives (w : Course) (xs : List Answer) (i : ℕ) (b : Builder) (buf calls : List ℕ) (n : ℕ) (why : Option NotMade) : Type 0 where
  pub on : w ≡ left xs i b buf calls
  pub counted : n ≡ i
  pub runs : why ≡ None

after_one : (i : ℕ) (xs : List Answer) (a : Answer) (c : Course) → after i xs (then_on a c) ≡ after (i + 1) (xs ++ (a ∷ [])) c
after_one i xs a c = alike c.stopped c.behind c.buffer _ _ _ _ (omega arith) (sym (append_assoc xs (a ∷ []) c.answers))

module _ {w : Course} {xs : List Answer} {i : ℕ} {b : Builder} {buf calls : List ℕ} {n : ℕ} {why : Option NotMade} (l : Lives w xs i b buf calls n why) where
  -- with room for one more answer
  module _ (room : i < length xs) where
    read :
        (x : Option (Front Asked)) → first_call calls ≡ x →
        w ≡ after i (take i xs) (next (drop (i + 1) xs) (course (drop (i + 1) xs)) (get_or xs i (telling 0 0)) b buf calls x)
    read x e =
        l.on ∙ ap (after i (take i xs)) (at_drop_more (λ ys. course ys b buf calls) xs i (telling 0 0) room)
        ∙ ap (λ y. after i (take i xs) (next (drop (i + 1) xs) (course (drop (i + 1) xs)) (get_or xs i (telling 0 0)) b buf calls y)) e

    pub goes_on :
        (e : Event) (r : List ℕ) → first_call calls ≡ Some (record { what = event e; behind = r }) → (x : After Answer) → x ≡ made b buf e →
        w ≡ left (set xs i x.answer) (i + 1) x.builder x.buffer r
    goes_on e r f x is =
        read _ f ∙ ap (λ y. after i (take i xs) (then_on y.answer (course (drop (i + 1) xs) y.builder y.buffer r))) (sym is)
        ∙ after_one i (take i xs) x.answer (course (drop (i + 1) xs) x.builder x.buffer r)
        ∙ ap (λ ys. after (i + 1) ys (course (drop (i + 1) xs) x.builder x.buffer r)) (sym (take_more_set xs i x.answer room))
        ∙ ap (λ ys. after (i + 1) (take (i + 1) (set xs i x.answer)) (course ys x.builder x.buffer r)) (sym (drop-set-lt (i + 1) xs i x.answer (omega arith)))

    pub ends :
        (r : List ℕ) → first_call calls ≡ Some (record { what = finish; behind = r }) → (a : Answer) →
        a ≡ telling (builders.finish b).length (builders.finish b).alignment → (m : ℕ) → m ≡ i + 1 → here (option_map why_not why) m r buf (set xs i a) ≡ w
    ends r f a is m more =
        sym (read _ f ∙ ap (λ y. here None (i + 1) r buf (take i xs ++ (y ∷ drop (i + 1) xs))) (sym is)
        ∙ ap (λ ys. here None (i + 1) r buf (ys ++ (a ∷ drop (i + 1) xs))) (sym (take-set xs i a))
        ∙ ap (λ ys. here None (i + 1) r buf (take i (set xs i a) ++ ys)) (sym (drop-set xs i a room))
        ∙ ap (here None (i + 1) r buf) (take-append-drop i (set xs i a))
        ∙ ap (λ k. here None k r buf (set xs i a)) (sym more)
        ∙ ap (λ o. here (option_map why_not o) m r buf (set xs i a)) (sym l.runs))
