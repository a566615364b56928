-- Laws of a single call on a builder: what it puts, where, and what stays. Assumes nothing.
use Rattle.std.proofs.Common.{◌≡◌, ℕ, ◌+◌, ◌-◌, ◌<◌, ◌≤◌, max, Bool, true, false, eqb, leb, List, [], ◌∷◌, ◌++◌, length, get_or, take, drop, sym, refl, ap, ◌∙◌, subst, ⊎_elim, arith, lit≤, rules}
use Rattle.std.specs.List.{AllByRecursion as All}
use Rattle.std.proofs.lemmas.List.{length-append, length-take, length-drop, length-replicate, ext_get_or, get_or-take, get_or-drop, same_lists, places}
use Rattle.std.proofs.lemmas.Bool.{le-leb, leb-true, eqb-true, or_cases}
use Rattle.format.specs.Places.{limit, stop, up, zeros, part, put, Holds, Alignment, Bytes}
use Rattle.format.specs.Answers.{Answer, Fault, good, bad, fault, both, unless}
use Rattle.format.specs.Sheets.{ended}
use Rattle.format.specs.Meaning.{Meaning, Belongs, Placed, Laws}
use Rattle.format.specs.Builder.{Builder, Call, align, reserve, reserve_bytes, write, push, push_bytes, build, Change, listed, allowed, appended, change}
use Rattle.format.specs.Life.{Lawful, Writes}
use Rattle.format.proofs.ByteLists.{length_part}
use Rattle.format.proofs.AnswerLaws.{unless-true, unless_parts, both_parts, good-same}
use Rattle.format.proofs.RoundLaws.{up_ge, up-mod, alignment_pos, alignment-max}

-- bytes that are put over others change no other place
get_or-part : (a : List ℕ) (p n i : ℕ) → i < n → get_or (part p n a) i 0 ≡ get_or a (p + i) 0
get_or-part a p n i h = get_or-take n (drop p a) i 0 h ∙ get_or-drop p a i 0

module _ (a : List ℕ) (q : ℕ) (ys : List ℕ) (low : q ≤ length a) where
  get_or-put : (i : ℕ) → (q ≤ i → i < q + length ys → ⊥) → get_or (put a q ys) i 0 ≡ get_or a i 0
  get_or-put i out = grind (arith, places)

  length-put-max : length (put a q ys) ≡ max (length a) (q + length ys)
  length-put-max = simp (length-append, length-take, length-drop) (omega arith)

  -- what an archive holds elsewhere it holds still
  pub holds_put : (p : ℕ) (xs : List ℕ) → Holds a p xs → ((i : ℕ) → p ≤ i → i < p + length xs → q ≤ i → i < q + length ys → ⊥) → Holds (put a q ys) p xs
  holds_put p xs h out =
      let l = length-put-max in
      let in_put : p + length xs ≤ length (put a q ys) = omega arith in
      record {
        within = in_put;
        same = ext_get_or 0 (part p (length xs) (put a q ys)) xs (length_part p (length xs) (put a q ys) in_put) (λ i k.
            let k' : i < length xs = subst (λ z. i < z) (length_part p (length xs) (put a q ys) in_put) k in
            get_or-part (put a q ys) p (length xs) i k' ∙
            (get_or-put (p + i) (λ x y. out (p + i) (omega arith) (omega arith) x y) ∙
            (sym (get_or-part a p (length xs) i k') ∙ ap (λ z. get_or z i 0) h.same)));
      }

-- the archive in a buffer, after bytes were put over it or behind it
pub take_put :
    (buf : List ℕ) (u q n : ℕ) (xs : List ℕ) → u ≤ length buf → q ≤ u → n ≡ max u (q + length xs) → n ≤ length buf →
    take n (put buf q xs) ≡ put (take u buf) q xs
take_put buf u q n xs hu hq e hn = same_lists _ _ (search (rules, places)) (λ k d h. grind (arith, places))

-- an alignment that may be asked for, with 1 for 0, is one
listed_all : (P : ℕ → Type 0) (a : ℕ) (xs : List ℕ) → All P xs → listed a xs ≡ true → P a
listed_all P a [] h k = let z : ◌≡◌ {A = ℕ} 0 1 = cc in absurd (omega arith)
listed_all P a (x ∷ xs) h k = ⊎_elim (λ e. subst P (sym (eqb-true a x e)) h.0) (λ e. listed_all P a xs h.1 e) (or_cases (eqb a x) (listed a xs) k)

pub allowed-power : (a : ℕ) → allowed a ≡ true → Alignment (max 1 a)
allowed-power a h =
    listed_all (λ x. Alignment (max 1 x)) a (0 ∷ 1 ∷ 2 ∷ 4 ∷ 8 ∷ 16 ∷ 32 ∷ 64 ∷ 128 ∷ 256 ∷ 512 ∷ 1024 ∷ 2048 ∷ 4096 ∷ []) (
      (0, (lit≤ tt, refl)),
      (
        (0, (lit≤ tt, refl)),
        (
          (1, (lit≤ tt, refl)),
          (
            (2, (lit≤ tt, refl)),
            (
              (3, (lit≤ tt, refl)),
              (
                (4, (lit≤ tt, refl)),
                (
                  (5, (lit≤ tt, refl)),
                  ((6, (lit≤ tt, refl)), ((7, (lit≤ tt, refl)), ((8, (lit≤ tt, refl)), ((9, (lit≤ tt, refl)), ((10, (lit≤ tt, refl)), ((11, (lit≤ tt, refl)), ((12, (lit≤ tt, refl)), tt))))))),
                ),
              ),
            ),
          ),
        ),
      ),
    )
    h

-- a builder as lives have it: the archive in the room, the room within the limit, an alignment that is one
pub record Sound (b : Builder) : Type 0 where
  pub inside : b.used ≤ b.room
  pub within : b.room ≤ limit
  pub power : Alignment b.align

-- what an accepted call may change: bytes over the archive, which its writes tell, or right behind it
pub record Fit (c : Call) (b : Builder) (x : Change) : Type 0 where
  pub start : x.from ≤ b.used
  pub reach : x.used ≡ max b.used (x.from + length x.bytes)
  pub inside : x.used ≤ b.room
  pub grown : b.align ≤ x.align
  pub power : Alignment x.align
  pub told : (i : ℕ) → x.from ≤ i → i < x.from + length x.bytes → i < b.used → Writes c i

module _ (b : Builder) (s : Sound b) where
  -- bytes behind zeros, from the used length on
  behind_fit : (c : Call) (p n w : ℕ) (xs : List ℕ) → b.used ≤ p → p + length xs ≡ n → n ≤ b.room → Alignment w → Fit c b (record { answer = p; from = b.used; bytes = zeros (p - b.used) ++ xs; used = n; align = max b.align w })
  behind_fit c p n w xs low e h k =
      let l : length (zeros (p - b.used) ++ xs) ≡ p - b.used + length xs = simp (length-append, length-replicate) in
      record {
        start = omega arith;
        reach = omega arith;
        inside = h;
        grown = omega arith;
        power = alignment-max b.align w s.power k;
        told = λ i x y z. absurd (omega arith);
      }

  appended_fit : (c : Call) (a : ℕ) (xs : List ℕ) (x : Change) → Alignment a → appended b a xs ≡ good x → Fit c b x
  appended_fit c a xs x k h =
      let p = up b.used a in
      let r = unless_parts (leb (p + length xs) b.room) _ _ x h in
      subst (Fit c b) (good-same _ x r.1) (behind_fit c p (p + length xs) a xs (up_ge b.used a (alignment_pos a k)).0 refl (leb-true (p + length xs) b.room r.0) k)

-- what an accepted build changes: the head at its place and the tail behind it, from the used length on
pub record Built (m : Meaning) (v : List ℕ) (b : Builder) (x : Change) : Type 0 where
  pub place : ℕ
  pub tail : ℕ
  pub next : tail ≡ place + m.size
  pub low : b.used ≤ place
  pub room : (m.lay v place tail).end ≤ b.room
  pub placed : Placed m v place tail
  pub is :
      record {
        answer = place;
        from = b.used;
        bytes = zeros (place - b.used) ++ ((m.lay v place tail).head ++ (m.lay v place tail).tail);
        used = (m.lay v place tail).end;
        align = max b.align (m.lay v place tail).widest;
      } ≡ x

module _ (m : Meaning) (v : List ℕ) (b : Builder) (x : Change) (laws : Laws m) where
  pub build_built : Sound b → Bytes v → change b (build m v) ≡ good x → Built m v b x
  build_built s bytes h =
      let k = laws.keeps in
      let p = up b.used m.align in
      let t = stop (p + m.size) in
      let small = unless_parts (leb (length v) limit) _ _ x h in
      let scanned = both_parts (m.scan v) _ x small.1 in
      let whole = both_parts (ended v scanned.0) _ x scanned.1.1 in
      let last = unless_parts (leb (length v) scanned.0) _ _ whole.0 whole.1.0 in
      let fitting = unless_parts (leb (m.lay v p t).end b.room) _ _ x whole.1.1 in
      let room : (m.lay v p t).end ≤ b.room = leb-true (m.lay v p t).end b.room fitting.0 in
      let e : scanned.0 ≡ length v = omega (arith, leb-true (length v) scanned.0 last.0, (k.ends v scanned.0 scanned.1.0).0) in
      let belongs : Belongs m v = (bytes, scanned.1.0 ∙ ap good e) in
      let onward : t ≤ (m.lay v p t).end = (k.onward v p t belongs (omega arith)).0 in
      record {
        place = p;
        tail = t;
        next = omega arith;
        low = (up_ge b.used m.align (alignment_pos m.align k.power)).0;
        room = room;
        placed = record { belongs = belongs; aligned = up-mod b.used m.align; behind = omega arith; reached = omega arith; fits = omega arith };
        is = good-same _ x fitting.1;
      }

  -- head and tail in a row end where the build ends
  pub built_end : (y : Built m v b x) → y.place + length ((m.lay v y.place y.tail).head ++ (m.lay v y.place y.tail).tail) ≡ (m.lay v y.place y.tail).end
  built_end y =
      let l = m.lay v y.place y.tail in
      let i = laws.keeps.head_long v y.place y.tail y.placed in
      let j = laws.keeps.tail_long v y.place y.tail y.placed in
      let n = length-append l.head l.tail in
      omega arith

  build_fit : Sound b → Bytes v → change b (build m v) ≡ good x → Fit (build m v) b x
  build_fit s bytes h =
      let y = build_built s bytes h in
      let l = m.lay v y.place y.tail in
      subst (Fit (build m v) b) y.is (behind_fit b s (build m v) y.place l.end l.widest (l.head ++ l.tail) y.low (built_end y) y.room (laws.keeps.widest_power v y.place y.tail y.placed.belongs).0)

-- every accepted call
pub change_fit : (c : Call) (b : Builder) → Sound b → Lawful c → (x : Change) → change b c ≡ good x → Fit c b x
change_fit (align a) b s k x h = let r = unless_parts (allowed a) _ _ x h in appended_fit b s _ (max 1 a) [] x (allowed-power a r.0) r.1
change_fit (reserve m) b s k x h = appended_fit b s _ m.align (zeros m.size) x k.keeps.power h
change_fit (reserve_bytes n a) b s k x h = let r = unless_parts (allowed a) _ _ x h in appended_fit b s _ (max 1 a) (zeros n) x (allowed-power a r.0) r.1
change_fit (write q xs) b s k x h =
    let r = unless_parts (leb (q + length xs) b.used) _ _ x h in
    let l = leb-true (q + length xs) b.used r.0 in
    subst (Fit (write q xs) b) (good-same _ x r.1) (record {
      start = omega arith;
      reach = omega arith;
      inside = omega arith;
      grown = omega arith;
      power = s.power;
      told = λ i x y z. (x, y);
    })
change_fit (push m xs) b s k x h = let r = unless_parts (eqb (length xs) m.size) _ _ x h in appended_fit b s _ m.align xs x k.keeps.power r.1
change_fit (push_bytes xs a) b s k x h = let r = unless_parts (allowed a) _ _ x h in appended_fit b s _ (max 1 a) xs x (allowed-power a r.0) r.1
change_fit (build m v) b s k x h = build_fit m v b x k.0 s k.1 h

-- the same builder with another room
abbrev pub roomy : Builder → ℕ → Builder
roomy b w = record { used = b.used; align = b.align; room = w }

-- a good answer behind a test, or behind another answer, that another takes the place of
unless-map : {A : Type 0} {x : A} (b : Bool) (f : Fault) (y z : Answer A) → (y ≡ good x → z ≡ good x) → unless b (bad f) y ≡ good x → unless b (bad f) z ≡ good x
unless-map true f y z go h = go h
unless-map false f y z go h = h

both-map : {A B : Type 0} {x : B} (y : Answer A) (f g : A → Answer B) → ((a : A) → f a ≡ good x → g a ≡ good x) → both y f ≡ good x → both y g ≡ good x
both-map (good a) f g go h = go a h
both-map (bad e) f g go h = h

module _ (b : Builder) (w : ℕ) (l : b.room ≤ w) (x : Change) where
  room-more : (n : ℕ) (y : Change) → unless (leb n b.room) (fault 4 0) (good y) ≡ good x → unless (leb n w) (fault 4 0) (good y) ≡ good x
  room-more n y h =
      let r = unless_parts (leb n b.room) _ (good y) x h in
      let k = leb-true n b.room r.0 in
      unless-true (leb n w) _ (good y) (le-leb n w (omega arith)) ∙ r.1

  -- a call that is accepted changes the same where there is more room
  pub change-more : (c : Call) → change b c ≡ good x → change (roomy b w) c ≡ good x
  change-more (align a) h = unless-map (allowed a) _ _ _ (room-more _ _) h
  change-more (reserve m) h = room-more _ _ h
  change-more (reserve_bytes n a) h = unless-map (allowed a) _ _ _ (room-more _ _) h
  change-more (write q xs) h = h
  change-more (push m xs) h = unless-map (eqb (length xs) m.size) _ _ _ (room-more _ _) h
  change-more (push_bytes xs a) h = unless-map (allowed a) _ _ _ (room-more _ _) h
  change-more (build m v) h =
      unless-map (leb (length v) limit) _ _ _ (λ k. both-map (m.scan v) _ _ (λ e i. both-map (ended v e) _ _ (λ z j. room-more _ _ j) i) k) h
