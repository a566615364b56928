-- The life of a builder: what it leaves readable, and that it is the same again. Assumes nothing.
use Rattle.std.proofs.Common.{◌≡◌, ℕ, ◌+◌, ◌-◌, ◌%◌, ◌<◌, ◌≤◌, true, false, eqb, leb, List, [], ◌∷◌, ◌++◌, length, take, drop, sym, refl, ap, ◌∙◌, subst, zero-add, arith, lit≤}
use native.Mathlib.Nat.{add-mod, mod-mod, zero-mod}
use Rattle.std.proofs.lemmas.List.{length-append, length-take-le, length-replicate, drop_at, drop-drop}
use Rattle.std.proofs.lemmas.Bool.{le-leb, leb-true, eq-eqb, ne_eqb}
use Rattle.format.specs.Places.{limit, zeros, put, Holds, Alignment, Bytes}
use Rattle.format.specs.Answers.{Answer, Fault, good, bad, fault, unless}
use Rattle.format.specs.Meaning.{Meaning, Placed, Laws}
use Rattle.format.specs.Archive.{rooted, sheet_at, pour, Copied}
use Rattle.format.specs.Builder.{Builder, new, finish, Call, build, Change, change, done}
use Rattle.format.specs.Life.{Event, own, other, call_of, Stage, met, after, lived, Handed, Lawful, Life, Writes, Spared, Readable, answers, if_good, accepted, goods, Leaves, LivesWell}
use Rattle.format.proofs.ByteLists.{length-put}
use Rattle.format.proofs.AnswerLaws.{unless-true, unless-false, unless_parts, both-good, good-same}
use Rattle.format.proofs.PlaceLaws.{split_holds, holds_left, holds_right, holds_longer, holds_at}
use Rattle.format.proofs.RoundLaws.{same-mod}
use Rattle.format.proofs.BuilderLaws.{holds_put, take_put, Sound, Fit, Built, build_built, built_end, change_fit, roomy, change-more}

-- the archive at a stage
abbrev pub archive : Stage → List ℕ
archive s = take s.builder.used s.buffer

-- in the archive itself, and whatever bytes are put behind it and, in a multiple of its alignment, before it
pub record Everywhere (m : Meaning) (v : List ℕ) (s : Stage) (p : ℕ) : Type 0 where
  pub here : Readable m v (archive s) p
  pub moved :
      (before behind : List ℕ) → length before % (finish s.builder).alignment ≡ 0 → length (before ++ archive s ++ behind) ≤ limit → Readable m v (before ++ archive s ++ behind) (length before + p)

-- each accepted build's record that no later accepted write fell upon
abbrev pub LeftReadable : Type 0
LeftReadable =
    (buf : List ℕ) (b : Builder) (earlier later : List Event) (m : Meaning) (v : List ℕ) (p : ℕ) →
    (let s = lived (record { builder = b; buffer = buf }) earlier in
    let t = after (own (build m v)) s in
    new buf ≡ good b → Life (length buf) (earlier ++ (own (build m v) ∷ later)) →
    (met (own (build m v)) s).answer ≡ good p → Spared p t.builder.used t later →
    Everywhere m v (lived t later) p)

-- with the refused events left out, and any buffer as long or longer, the same life gives the same
pub record Alike (s t : Stage) (es : List Event) : Type 0 where
  pub answers : goods (answers s es) ≡ answers t (accepted s es)
  pub archive : archive (lived s es) ≡ archive (lived t (accepted s es))
  pub finish : finish (lived s es).builder ≡ finish (lived t (accepted s es)).builder

abbrev pub SameAgain : Type 0
SameAgain =
    (buf wide : List ℕ) (b c : Builder) (es : List Event) → new buf ≡ good b → new wide ≡ good c → length buf ≤ length wide → Life (length buf) es →
    Alike (record { builder = b; buffer = buf }) (record { builder = c; buffer = wide }) es

-- a stage as lives have it, in a buffer of so many bytes
pub record Ready (room : ℕ) (s : Stage) : Type 0 where
  pub sound : Sound s.builder
  pub same : s.builder.room ≡ room
  pub long : length s.buffer ≡ room

-- a stage with a change made
abbrev pub made : Stage → Change → Stage
made s x = record { builder = record { used = x.used; align = x.align; room = s.builder.room }; buffer = put s.buffer x.from x.bytes }

-- an event is refused and alters nothing, or it is a call whose change is made
pub data Way (s : Stage) : Event → Type 0 where
  refused : {e : Event} (f : Fault) → (met e s).answer ≡ bad f → after e s ≡ s → Way s e
  taken : {c : Call} (x : Change) → change s.builder c ≡ good x → (met (own c) s).answer ≡ good x.answer → after (own c) s ≡ made s x → Way s (own c)

module _ (room : ℕ) (s : Stage) (r : Ready room s) where
  stepped : (c : Call) (y : Answer Change) → change s.builder c ≡ y → unless (eqb (length s.buffer) s.builder.room) (fault 2 0) (change s.builder c) ≡ y
  stepped c y h = unless-true _ _ (change s.builder c) (eq-eqb (length s.buffer) s.builder.room (r.long ∙ sym r.same)) ∙ h

  pub answer_is : (c : Call) (y : Answer Change) → change s.builder c ≡ y → (met (own c) s).answer ≡ (done s.builder s.buffer y).answer
  answer_is c y h = ap (λ z. (done s.builder s.buffer z).answer) (stepped c y h)

  pub after_is : (c : Call) (y : Answer Change) → change s.builder c ≡ y → after (own c) s ≡ record { builder = (done s.builder s.buffer y).builder; buffer = (done s.builder s.buffer y).buffer }
  after_is c y h = ap (λ z. record { builder = (done s.builder s.buffer z).builder; buffer = (done s.builder s.buffer z).buffer }) (stepped c y h)

  pub way : (e : Event) → Handed room e → Way s e
  way (own c) h = go (change s.builder c) refl where
    go : (y : Answer Change) → change s.builder c ≡ y → Way s (own c)
    go (good x) k = taken x k (answer_is c (good x) k) (after_is c (good x) k)
    go (bad f) k = refused f (answer_is c (bad f) k) (after_is c (bad f) k)
  way (other buf c) h =
      let test : unless (eqb (length buf) s.builder.room) (fault 2 0) (change s.builder c) ≡ fault 2 0 =
      unless-false _ _ _ (ne_eqb (length buf) s.builder.room (λ e. h (e ∙ r.same))) in
      refused (record { number = 2; place = 0; depth = 0 }) (ap (λ z. (done s.builder buf z).answer) test) (ap (λ z. record { builder = (done s.builder buf z).builder; buffer = s.buffer }) test)

  -- a change that fits is put over the archive or behind it
  module _ (c : Call) (x : Change) (f : Fit c s.builder x) where
    pub made_ready : Ready room (made s x)
    made_ready = record {
      sound = record { inside = f.inside; within = r.sound.within; power = f.power };
      same = r.same;
      long = length-put s.buffer x.from x.bytes (omega arith) ∙ r.long;
    }

    pub made_archive : archive (made s x) ≡ put (archive s) x.from x.bytes
    made_archive = take_put s.buffer s.builder.used x.from x.used x.bytes (omega arith) f.start f.reach (omega arith)

  pub archive-long : length (archive s) ≡ s.builder.used
  archive-long = length-take-le s.builder.used s.buffer (omega arith)

  after_ready : (e : Event) → Way s e → Lawful (call_of e) → Ready room (after e s)
  after_ready e (refused f a b) k = subst (Ready room) (sym b) r
  after_ready (own c) (taken x g a b) k = subst (Ready room) (sym b) (made_ready c x (change_fit c s.builder r.sound k x g))

pub lived_ready : (room : ℕ) (s : Stage) (es : List Event) → Ready room s → Life room es → Ready room (lived s es)
lived_ready room s [] r l = r
lived_ready room s (e ∷ es) r l = lived_ready room (after e s) es (after_ready room s r e (way room s r e l.0) l.1) l.2

life_left : (room : ℕ) (xs ys : List Event) → Life room (xs ++ ys) → Life room xs
life_left room [] ys l = tt
life_left room (x ∷ xs) ys l = (l.0, l.1, life_left room xs ys l.2)

life_right : (room : ℕ) (xs ys : List Event) → Life room (xs ++ ys) → Life room ys
life_right room [] ys l = l
life_right room (x ∷ xs) ys l = life_right room xs ys l.2

pub new_ready : (buf : List ℕ) (b : Builder) → new buf ≡ good b → (Ready (length buf) (record { builder = b; buffer = buf })) × ((b.used ≡ 0) × (b.align ≡ 1))
new_ready buf b h =
    let r = unless_parts (leb (length buf) limit) _ _ b h in
    let l = leb-true (length buf) limit r.0 in
    subst (λ z. (Ready (length buf) (record { builder = z; buffer = buf })) × ((z.used ≡ 0) × (z.align ≡ 1))) (good-same _ b r.1) (
      record {
        sound = record { inside = omega arith; within = l; power = (0, (lit≤ tt, refl)) };
        same = refl;
        long = refl;
      },
      (refl, refl),
    )

-- what stands at p, with an alignment that the builder's is not below
pub record Standing (room p : ℕ) (xs : List ℕ) (w : ℕ) (s : Stage) : Type 0 where
  pub ready : Ready room s
  pub held : Holds (archive s) p xs
  pub wide : w ≤ s.builder.align

module _ (room p : ℕ) (xs : List ℕ) (w : ℕ) where
  still : (s : Stage) (e : Event) → Standing room p xs w s → Way s e → Lawful (call_of e) → ((a i : ℕ) → (met e s).answer ≡ good a → p ≤ i → i < p + length xs → Writes (call_of e) i → ⊥) → Standing room p xs w (after e s)
  still s e t (refused f a b) k out = subst (Standing room p xs w) (sym b) t
  still s (own c) t (taken x g a b) k out =
      let f = change_fit c s.builder t.ready.sound k x g in
      let long = archive-long room s t.ready in
      let clear : (i : ℕ) → p ≤ i → i < p + length xs → x.from ≤ i → i < x.from + length x.bytes → ⊥ =
      λ i l m n o. out x.answer i a l m (f.told i n o (omega arith)) in
      subst (Standing room p xs w) (sym b) (record {
        ready = made_ready room s t.ready c x f;
        held = holds_at (made_archive room s t.ready c x f) (holds_put (archive s) x.from x.bytes (omega arith) p xs t.held clear);
        wide = omega arith;
      })

  still_lived : (s : Stage) (es : List Event) → Standing room p xs w s → Life room es → Spared p (p + length xs) s es → Standing room p xs w (lived s es)
  still_lived s [] t l k = t
  still_lived s (e ∷ es) t l k = still_lived (after e s) es (still s e t (way room s t.ready e l.0) l.1 k.0) l.2 k.1

-- bytes before an archive, in a multiple of an alignment, move its parts alike
holds_before : (before a : List ℕ) (p : ℕ) (xs : List ℕ) → Holds a p xs → Holds (before ++ a) (length before + p) xs
holds_before before a p xs h = record {
  within = let n = length-append before a in omega arith;
  same = ap (take (length xs)) (sym (drop-drop p (length before) (before ++ a)) ∙ ap (drop p) (drop_at before a (length before) refl)) ∙ h.same;
}

mod-before : (n p w a : ℕ) → Alignment w → Alignment a → w ≤ a → n % a ≡ 0 → (n + p) % w ≡ p % w
mod-before n p w a j k l h =
    let e : n % w ≡ 0 = same-mod w a n 0 j k l (h ∙ sym (zero-mod a)) ∙ zero-mod w in
    add-mod n p w ∙ (ap (λ z. (z + p % w) % w) e ∙ (ap (λ z. z % w) (zero-add (p % w)) ∙ mod-mod p w))

-- what was built is read wherever it stands, aligned as it was built
module _ (m : Meaning) (v : List ℕ) (h t : ℕ) (laws : Laws m) (placed : Placed m v h t) (next : t ≡ h + m.size) where
  pub built_readable : (a : List ℕ) (p : ℕ) → length a ≤ limit → p % (m.lay v h t).widest ≡ h % (m.lay v h t).widest → Holds a p ((m.lay v h t).head ++ (m.lay v h t).tail) → Readable m v a p
  built_readable a p fits agrees held =
      let l = m.lay v h t in
      let k = laws.keeps in
      let power = k.widest_power v h t placed.belongs in
      let long = k.head_long v h t placed in
      let head : Holds a p l.head = holds_left a p l.head l.tail held in
      let tail : Holds a (p + m.size) l.tail = subst (λ z. Holds a (p + z) l.tail) long (holds_right a p l.head l.tail held) in
      let read : m.reading a p ≡ good (m.kept v) = k.back v h t p (p + m.size) a placed (record { multiple = agrees; together = omega arith }) head tail in
      let inside : p + m.size ≤ length a = omega arith in
      let aligned : p % m.align ≡ 0 = same-mod m.align l.widest p h k.power power.0 power.1 agrees ∙ placed.aligned in
      let root : rooted m a p ≡ good p =
      unless-true _ _ _ (le-leb (length a) limit fits) ∙ (unless-true _ _ _ (le-leb (p + m.size) (length a) inside) ∙ unless-true _ _ _ (eq-eqb (p % m.align) 0 aligned)) in
      let sheet : sheet_at m a p ≡ good (m.kept v) = both-good (rooted m a p) p (λ _. m.reading a p) root ∙ read in
      record {
        deep = both-good (sheet_at m a p) (m.kept v) (λ _. good p) sheet;
        copied = λ out room. ap (λ z. pour z out) sheet ∙ poured (m.kept v) out room;
      } where
        poured : (xs out : List ℕ) → length xs ≤ length out → pour (good xs) out ≡ record { answer = good (length xs); output = xs ++ drop (length xs) out }
        poured xs out k = ap (λ z. elim z as (λ _. Copied) [
          | true ↦ record { answer = good (length xs); output = xs ++ drop (length xs) out }
          | false ↦ record { answer = fault 4 0; output = out }
        ]) (le-leb (length xs) (length out) k)

  everywhere : (room : ℕ) (s : Stage) → Standing room h ((m.lay v h t).head ++ (m.lay v h t).tail) (m.lay v h t).widest s → Everywhere m v s h
  everywhere room s st = record {
    here =
        let n = archive-long room s st.ready in
        built_readable (archive s) h (omega arith) refl st.held;
    moved = λ before behind whole fits.
        built_readable (before ++ archive s ++ behind) (length before + h) fits
        (mod-before (length before) h (m.lay v h t).widest s.builder.align (laws.keeps.widest_power v h t placed.belongs).0 st.ready.sound.power st.wide whole)
        (holds_longer (before ++ archive s) behind (length before + h) _ (holds_before before (archive s) h _ st.held));
  }

-- a part that is put behind zeros
holds_behind : (a : List ℕ) (q p : ℕ) (xs : List ℕ) → q ≤ length a → q ≤ p → Holds (put a q (zeros (p - q) ++ xs)) p xs
holds_behind a q p xs h l =
    let n : length (zeros (p - q)) ≡ p - q = length-replicate (p - q) 0 in
    let e : q + length (zeros (p - q)) ≡ p = omega arith in
    let ys = zeros (p - q) ++ xs in
    subst (λ z. Holds (put a q ys) z xs) e (holds_right (put a q ys) q (zeros (p - q)) xs (split_holds (take q a) ys (drop (q + length ys) a) q (length-take-le q a h)))

-- what an accepted build leaves stands
built_standing :
    (room : ℕ) (s : Stage) (m : Meaning) (v : List ℕ) (x : Change) (r : Ready room s) → Laws m × Bytes v → change s.builder (build m v) ≡ good x → (y : Built m v s.builder x) →
    Standing room y.place ((m.lay v y.place y.tail).head ++ (m.lay v y.place y.tail).tail) (m.lay v y.place y.tail).widest (made s x)
built_standing room s m v x r k g y =
    let f = change_fit (build m v) s.builder r.sound k x g in
    let l = m.lay v y.place y.tail in
    let xs = l.head ++ l.tail in
    let n = archive-long room s r in
    record {
      ready = made_ready room s r (build m v) x f;
      held = holds_at (made_archive room s r (build m v) x f) (subst (λ z. Holds (put (archive s) z.from z.bytes) y.place xs) y.is (holds_behind (archive s) s.builder.used y.place xs (omega arith) y.low));
      wide = subst (λ z. l.widest ≤ z.align) y.is (omega arith);
    }

-- each accepted build's record that no later accepted write fell upon is readable at the end
pub left_readable : LeftReadable
left_readable buf b earlier later m v p begun life ans spared = go (way room s ready (own (build m v)) tt) where
  room : ℕ
  room = length buf

  s : Stage
  s = lived (record { builder = b; buffer = buf }) earlier

  ready : Ready room s
  ready = lived_ready room (record { builder = b; buffer = buf }) earlier (new_ready buf b begun).0 (life_left room earlier _ life)

  rest : Life room (own (build m v) ∷ later)
  rest = life_right room earlier (own (build m v) ∷ later) life

  t : Stage
  t = after (own (build m v)) s

  go : Way s (own (build m v)) → Everywhere m v (lived t later) p
  go (refused f a e) = let z : ◌≡◌ {A = ℕ} 0 1 = cc in absurd (omega arith)
  go (taken x g a e) =
      let k = rest.1 in
      let y = build_built m v s.builder x k.0 ready.sound k.1 g in
      let h = y.place in
      let l = m.lay v h y.tail in
      let xs = l.head ++ l.tail in
      let here : p ≡ h = good-same p x.answer (sym ans ∙ a) ∙ sym (ap (λ z. z.answer) y.is) in
      let end : t.builder.used ≡ h + length xs = ap (λ z. z.builder.used) e ∙ (sym (ap (λ z. z.used) y.is) ∙ sym (built_end m v s.builder x k.0 y)) in
      let first : Standing room h xs l.widest t = subst (Standing room h xs l.widest) (sym e) (built_standing room s m v x ready k g y) in
      let spared' : Spared h (h + length xs) t later = subst (λ z. Spared h z t later) end (subst (λ z. Spared z t.builder.used t later) here spared) in
      subst (Everywhere m v (lived t later)) (sym here) (everywhere m v h y.tail k.0 y.placed y.next room (lived t later) (still_lived room h xs l.widest t later first rest.2 spared'))

-- two stages of one life, the second in a buffer as long or longer
record Twin (narrow wide : ℕ) (s t : Stage) : Type 0 where
  pub one : Ready narrow s
  pub two : Ready wide t
  pub far : s.builder.used ≡ t.builder.used
  pub power : s.builder.align ≡ t.builder.align
  pub alike : archive s ≡ archive t

-- by a list that the accepted events are
alike_by : (s t : Stage) (es left : List Event) → accepted s es ≡ left → goods (answers s es) ≡ answers t left → archive (lived s es) ≡ archive (lived t left) → finish (lived s es).builder ≡ finish (lived t left).builder → Alike s t es
alike_by s t es left e a b c = record {
  answers = a ∙ ap (answers t) (sym e);
  archive = b ∙ ap (λ z. archive (lived t z)) (sym e);
  finish = c ∙ ap (λ z. finish (lived t z).builder) (sym e);
}

module _ (narrow wide : ℕ) (more : narrow ≤ wide) where
  twin_change : (s t : Stage) (c : Call) (x : Change) → Twin narrow wide s t → change s.builder c ≡ good x → change t.builder c ≡ good x
  twin_change s t c x w g =
      let same : roomy s.builder t.builder.room ≡ t.builder = λ i. record { used = w.far i; align = w.power i; room = t.builder.room } in
      subst (λ z. change z c ≡ good x) same (change-more s.builder t.builder.room (omega arith) x c g)

  twin_made : (s t : Stage) (c : Call) (x : Change) → Twin narrow wide s t → Lawful c → change s.builder c ≡ good x → Twin narrow wide (made s x) (made t x)
  twin_made s t c x w k g =
      let f = change_fit c s.builder w.one.sound k x g in
      let f' = change_fit c t.builder w.two.sound k x (twin_change s t c x w g) in
      record {
        one = made_ready narrow s w.one c x f;
        two = made_ready wide t w.two c x f';
        far = refl;
        power = refl;
        alike = made_archive narrow s w.one c x f ∙ (ap (λ z. put z x.from x.bytes) w.alike ∙ sym (made_archive wide t w.two c x f'));
      }

  -- one event, refused or accepted, and what comes after it
  alike_more : (e : Event) (es : List Event) (s t : Stage) → Twin narrow wide s t → Way s e → Lawful (call_of e) → ((s t : Stage) → Twin narrow wide s t → Alike s t es) → Alike s t (e ∷ es)
  alike_more e es s t w (refused f a b) k rest =
      let s' = after e s in
      let r = rest s' t (subst (λ z. Twin narrow wide z t) (sym b) w) in
      alike_by s t (e ∷ es) _ (ap (λ z. if_good z e (accepted s' es)) a) (ap (λ z. if_good z z (goods (answers s' es))) a ∙ r.answers) r.archive r.finish
  alike_more (own c) es s t w (taken x g a b) k rest =
      let s' = after (own c) s in
      let t' = after (own c) t in
      let g' = twin_change s t c x w g in
      let a' = answer_is wide t w.two c (good x) g' in
      let b' = after_is wide t w.two c (good x) g' in
      let r = rest s' t' (subst (λ z. Twin narrow wide z t') (sym b) (subst (Twin narrow wide (made s x)) (sym b') (twin_made s t c x w k g))) in
      let same : goods (answers s (own c ∷ es)) ≡ answers t (own c ∷ accepted s' es) =
      ap (λ z. if_good z z (goods (answers s' es))) a ∙ (ap (λ z. good x.answer ∷ z) r.answers ∙ ap (λ z. z ∷ answers t' (accepted s' es)) (sym a')) in
      alike_by s t (own c ∷ es) _ (ap (λ z. if_good z (own c) (accepted s' es)) a) same r.archive r.finish

  alike_from : (es : List Event) (s t : Stage) → Twin narrow wide s t → Life narrow es → Alike s t es
  alike_from [] s t w l = record { answers = refl; archive = w.alike; finish = λ i. record { length = w.far i; alignment = w.power i } }
  alike_from (e ∷ es) s t w l = alike_more e es s t w (way narrow s w.one e l.0) l.1 (λ s' t' w'. alike_from es s' t' w' l.2)

-- with the refused events left out, and any buffer as long or longer, the same life gives the same
pub same_again : SameAgain
same_again buf wide b c es one two more l =
    let x = new_ready buf b one in
    let y = new_ready wide c two in
    alike_from (length buf) (length wide) more es _ _ (record {
      one = x.0;
      two = y.0;
      far = x.1.0 ∙ sym y.1.0;
      power = x.1.1 ∙ sym y.1.1;
      alike = ap (λ z. take z buf) x.1.0 ∙ sym (ap (λ z. take z wide) y.1.0);
    }) l

lived_on : (s : Stage) (xs ys : List Event) → lived s (xs ++ ys) ≡ lived (lived s xs) ys
lived_on s [] ys = refl
lived_on s (x ∷ xs) ys = lived_on (after x s) xs ys

-- the theorem on a builder's life
pub lives_well : (b : Builder) → LivesWell b (finish b)
lives_well b s es begun life ends = subst (λ z. Leaves s es (finish z)) ends (record {
  readable = λ earlier later m v p cut ans spared.
      let t = after (own (build m v)) (lived s earlier) in
      let same : lived t later ≡ lived s es = sym (ap (lived s) cut ∙ lived_on s earlier (own (build m v) ∷ later)) in
      let e = subst (λ z. Everywhere m v z p) same (left_readable s.buffer s.builder earlier later m v p begun (subst (Life (length s.buffer)) cut life) ans spared) in
      record { here = e.here; moved = e.moved };
  again = λ wide c opened more.
      let r = same_again s.buffer wide s.builder c es begun opened more life in
      let w = lived (record { builder = c; buffer = wide }) (accepted s es) in
      record {
        answers = r.answers;
        archive = r.archive ∙ ap (λ z. take z.length w.buffer) (sym r.finish);
        finish = sym r.finish;
      };
})
