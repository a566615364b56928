use Rattle.std.proofs.Common.{◌≡◌, ℕ, ◌+◌, ◌<◌, Bool, false, List, [], ◌∷◌, length, get_or, drop, sym, refl, ap, ◌∙◌}
use Rattle.std.proofs.lemmas.List.{at_drop_more, at_drop_all}
use Rattle.format.specs.Recogniser.{State, start, broken, run, move, at_start, is_text}
use Rattle.std.proofs.lemmas.Bool.Decides.{Decides-at, Decides-like}
use Rattle.format.proofs.TextLaws.{text_decided}
use Rattle.format.proofs.GrammarUtf8.{text_utf8, utf8_text}
use Rattle.utf8.specs.Recognised.{Recognised}
use Rattle.utf8.specs.Stands.{stands}
use Rattle.utf8.proofs.text.is_text.Goals as goal

broken_stays : (bs : List ℕ) → run broken bs ≡ broken
broken_stays [] = refl
broken_stays (b ∷ bs) = broken_stays bs

-- one byte more
fed : (s t : State) (bs : List ℕ) (i : ℕ) → i < length bs → t ≡ move s (get_or bs i 0) → run s (drop i bs) ≡ run t (drop (i + 1) bs)
fed s t bs i lt e =
    let k : run s (drop i bs) ≡ run (move s (get_or bs i 0)) (drop (i + 1) bs) = at_drop_more (run s) bs i 0 lt in
    k ∙ ap (λ z. run z (drop (i + 1) bs)) (sym e)

recognised : (bs : List ℕ) (r : Bool) → r ≡ is_text bs → Recognised bs r
recognised bs r e =
    let told = Decides-at r (is_text bs) e (text_decided bs) in
    record { value = e; grammar = told; scalars = Decides-like r (text_utf8 bs) (utf8_text bs) told }

pub returns-then-not-feed : goal.returns-then-not-feed
returns-then-not-feed c =
    let bs = c.args.bytes.now in
    let k = fed (stands c.loop-byte.recogniser.position) broken bs c.loop-byte.byte-index c.loop-byte-test.true c.if-not-feed.ensures.moved in
    let e : run start bs ≡ broken = sym c.loop-byte.invariant ∙ k ∙ broken_stays (drop (c.loop-byte.byte-index + 1) bs) in
    recognised bs false (ap at_start (sym e))

pub returns : goal.returns
returns c =
    let bs = c.args.bytes.now in
    let s = stands c.loop-byte.recogniser.position in
    let k : run s (drop c.loop-byte.byte-index bs) ≡ s = at_drop_all (run s) bs c.loop-byte.byte-index c.loop-byte-test.false in
    recognised bs c.at_start.result (c.at_start.ensures ∙ ap at_start (sym k ∙ c.loop-byte.invariant))
