-- The recogniser of text accepts exactly the grammar, with what follows for texts in a row and for a text that is cut. Assumes nothing.
use Rattle.std.proofs.Common.{◌≡◌, ℕ, ◌<◌, ◌≤◌, Bool, true, false, ◌⊎◌, List, [], ◌∷◌, ◌++◌, get_or, Decides, sym, refl, ap, ◌∙◌, subst, inl, inr, append_assoc, arith}
use Rattle.std.proofs.lemmas.Bool.{cases_order, false≢true}
use Rattle.std.proofs.lemmas.Bool.Decides.{nat_tests, Decides-like}
use Rattle.format.specs.Text.{Range, Tail, Char, utf8_1, utf8_2, utf8_3_E0, utf8_3_E1_EC, utf8_3_ED, utf8_3_EE_EF, utf8_4_F0, utf8_4_F1_F3, utf8_4_F4, Text, none, more}
use Rattle.format.specs.Recogniser.{State, start, one, two, three, after_E0, after_ED, after_F0, after_F4, broken, among, pick, begin, move, run, at_start, is_text}

-- the second byte of a character whose first is a: from low on after first, up to high after last
abbrev pub Second : (first low last high : ℕ) → ℕ → ℕ → Type 0
Second first low last high a b = Tail b × (a ≡ first → low ≤ b) × (a ≡ last → b ≤ high)

abbrev pub SecondOf3 : ℕ → ℕ → Type 0
SecondOf3 = Second 0xe0 0xa0 0xed 0x9f

abbrev pub SecondOf4 : ℕ → ℕ → Type 0
SecondOf4 = Second 0xf0 0x90 0xf4 0x8f

-- the productions of three bytes as one, and those of four
pub three-bytes : (a b c : ℕ) → Range 0xe0 0xef a → SecondOf3 a b → Tail c → Char (a ∷ b ∷ c ∷ [])
three-bytes a b c r s t = by (cases_order a 0xe0) (cases_order a 0xed)
  where
    by : (a ≡ 0xe0) ⊎ ((a < 0xe0) ⊎ (0xe0 < a)) → (a ≡ 0xed) ⊎ ((a < 0xed) ⊎ (0xed < a)) → Char (a ∷ b ∷ c ∷ [])
    by (inl e) _ = subst (λ x. Char (x ∷ b ∷ c ∷ [])) (sym e) (utf8_3_E0 (s.1 e, s.0.1) t)
    by (inr (inl l)) _ = absurd (omega arith)
    by (inr (inr l)) (inl e) = subst (λ x. Char (x ∷ b ∷ c ∷ [])) (sym e) (utf8_3_ED (s.0.0, s.2 e) t)
    by (inr (inr l)) (inr (inl u)) = utf8_3_E1_EC (omega arith, omega arith) s.0 t
    by (inr (inr l)) (inr (inr u)) = utf8_3_EE_EF (omega arith, omega arith) s.0 t

pub four_bytes : (a b c d : ℕ) → Range 0xf0 0xf4 a → SecondOf4 a b → Tail c → Tail d → Char (a ∷ b ∷ c ∷ d ∷ [])
four_bytes a b c d r s t u = by (cases_order a 0xf0) (cases_order a 0xf4)
  where
    by : (a ≡ 0xf0) ⊎ ((a < 0xf0) ⊎ (0xf0 < a)) → (a ≡ 0xf4) ⊎ ((a < 0xf4) ⊎ (0xf4 < a)) → Char (a ∷ b ∷ c ∷ d ∷ [])
    by (inl e) _ = subst (λ x. Char (x ∷ b ∷ c ∷ d ∷ [])) (sym e) (utf8_4_F0 (s.1 e, s.0.1) t u)
    by (inr (inl l)) _ = absurd (omega arith)
    by (inr (inr l)) (inl e) = subst (λ x. Char (x ∷ b ∷ c ∷ d ∷ [])) (sym e) (utf8_4_F4 (s.0.0, s.2 e) t u)
    by (inr (inr l)) (inr (inl v)) = utf8_4_F1_F3 (omega arith, omega arith) s.0 t u
    by (inr (inr l)) (inr (inr v)) = absurd (omega arith)

-- a byte from lo to hi, and then what P says
abbrev Then : ℕ → ℕ → (List ℕ → Type 0) → List ℕ → Type 0
Then lo hi P [] = ⊥
Then lo hi P (b ∷ bs) = Range lo hi b × P bs

abbrev One : List ℕ → Type 0
One = Then 0x80 0xbf Text

abbrev Two : List ℕ → Type 0
Two = Then 0x80 0xbf One

-- what has to follow where the recogniser stands
abbrev Rest : State → List ℕ → Type 0
Rest start = Text
Rest one = One
Rest two = Two
Rest three = Then 0x80 0xbf Two
Rest after_E0 = Then 0xa0 0xbf One
Rest after_ED = Then 0x80 0x9f One
Rest after_F0 = Then 0x90 0xbf Two
Rest after_F4 = Then 0x80 0x8f Two
Rest broken = λ _. ⊥

-- the states are three: at the start, broken, and inside a character; P is of the moves from one, of what follows there, and of whether it is the start
each : (P : (ℕ → State) → (List ℕ → Type 0) → Bool → Type 0) → P begin Text true → P (λ _. broken) (λ _. ⊥) false
    → ((lo hi : ℕ) (t : State) → 0x80 ≤ lo → hi ≤ 0xbf → P (λ b. pick (among lo hi b) t broken) (Then lo hi (Rest t)) false) → (s : State) → P (move s) (Rest s) (at_start s)
each P p q r start = p
each P p q r one = r 0x80 0xbf start (omega arith) (omega arith)
each P p q r two = r 0x80 0xbf one (omega arith) (omega arith)
each P p q r three = r 0x80 0xbf two (omega arith) (omega arith)
each P p q r after_E0 = r 0xa0 0xbf one (omega arith) (omega arith)
each P p q r after_ED = r 0x80 0x9f one (omega arith) (omega arith)
each P p q r after_F0 = r 0x90 0xbf two (omega arith) (omega arith)
each P p q r after_F4 = r 0x80 0x8f two (omega arith) (omega arith)
each P p q r broken = q

-- the bytes that may follow a, whose move owes one, two or three bytes, make a text with it
of_two : (a : ℕ) → Range 0xc2 0xdf a → (bs : List ℕ) → One bs → Text (a ∷ bs)
of_two a r [] h = absurd h
of_two a r (b ∷ bs) h = more (utf8_2 r h.0) h.1

of_three : (a lo hi : ℕ) → Range 0xe0 0xef a → ((b : ℕ) → Range lo hi b → SecondOf3 a b) → (bs : List ℕ) → Then lo hi One bs → Text (a ∷ bs)
of_three a lo hi r s [] h = absurd h
of_three a lo hi r s (b ∷ []) h = absurd h.1
of_three a lo hi r s (b ∷ c ∷ bs) h = more (three-bytes a b c r (s b h.0) h.1.0) h.1.1

of_four : (a lo hi : ℕ) → Range 0xf0 0xf4 a → ((b : ℕ) → Range lo hi b → SecondOf4 a b) → (bs : List ℕ) → Then lo hi Two bs → Text (a ∷ bs)
of_four a lo hi r s [] h = absurd h
of_four a lo hi r s (b ∷ []) h = absurd h.1
of_four a lo hi r s (b ∷ c ∷ []) h = absurd h.1.1
of_four a lo hi r s (b ∷ c ∷ d ∷ bs) h = more (four_bytes a b c d r (s b h.0) h.1.0 h.1.1.0) h.1.1.1

opened : (a : ℕ) (s : State) → begin a ≡ s → (bs : List ℕ) → Rest s bs → Text (a ∷ bs)
opened a start e bs h = more (utf8_1 (grind (arith, nat_tests))) h
opened a one e bs h = of_two a (grind (arith, nat_tests)) bs h
opened a two e bs h = of_three a 0x80 0xbf (grind (arith, nat_tests)) (λ b r. grind (arith, nat_tests)) bs h
opened a three e bs h = of_four a 0x80 0xbf (grind (arith, nat_tests)) (λ b r. grind (arith, nat_tests)) bs h
opened a after_E0 e bs h = of_three a 0xa0 0xbf (grind (arith, nat_tests)) (λ b r. grind (arith, nat_tests)) bs h
opened a after_ED e bs h = of_three a 0x80 0x9f (grind (arith, nat_tests)) (λ b r. grind (arith, nat_tests)) bs h
opened a after_F0 e bs h = of_four a 0x90 0xbf (grind (arith, nat_tests)) (λ b r. grind (arith, nat_tests)) bs h
opened a after_F4 e bs h = of_four a 0x80 0x8f (grind (arith, nat_tests)) (λ b r. grind (arith, nat_tests)) bs h
opened a broken e bs h = absurd h

-- and what follows the first byte of a text may follow it
abbrev Opens : List ℕ → Type 0
Opens [] = Unit {0}
Opens (a ∷ bs) = Rest (begin a) bs

opens : (bs : List ℕ) → Text bs → Opens bs
opens bs none = tt
opens bs (more {cs = cs} h t) = by h
  where
    at : (a : ℕ) (s : State) (bs : List ℕ) → begin a ≡ s → Rest s bs → Rest (begin a) bs
    at a s bs e h = subst (λ x. Rest x bs) (sym e) h

    by : {c : List ℕ} → Char c → Opens (c ++ cs)
    by (utf8_1 {a} r) = at a start _ (grind (arith, nat_tests)) t
    by (utf8_2 {a} r p) = at a one _ (grind (arith, nat_tests)) (p, t)
    by (utf8_3_E0 p q) = (p, (q, t))
    by (utf8_3_E1_EC {a} r p q) = at a two _ (grind (arith, nat_tests)) (p, (q, t))
    by (utf8_3_ED p q) = (p, (q, t))
    by (utf8_3_EE_EF {a} r p q) = at a two _ (grind (arith, nat_tests)) (p, (q, t))
    by (utf8_4_F0 p q w) = (p, (q, (w, t)))
    by (utf8_4_F1_F3 {a} r p q w) = at a three _ (grind (arith, nat_tests)) (p, (q, (w, t)))
    by (utf8_4_F4 p q w) = (p, (q, (w, t)))

-- a byte inside a character
waits : (lo hi : ℕ) (t : State) (b : ℕ) (bs : List ℕ) (x : Bool) → among lo hi b ≡ x → (Rest (pick x t broken) bs → Range lo hi b × Rest t bs) × (Range lo hi b × Rest t bs → Rest (pick x t broken) bs)
waits lo hi t b bs true e = let r : Range lo hi b = grind (arith, nat_tests) in (λ h. (r, h), λ h. h.1)
waits lo hi t b bs false e = (λ h. absurd h, λ h. let r : Range lo hi b = h.0 in absurd (grind (arith, nat_tests)))

-- a byte at any state
moved : (s : State) (b : ℕ) (bs : List ℕ) → (Rest (move s b) bs → Rest s (b ∷ bs)) × (Rest s (b ∷ bs) → Rest (move s b) bs)
moved s b bs =
    each (λ go R _. (Rest (go b) bs → R (b ∷ bs)) × (R (b ∷ bs) → Rest (go b) bs)) (opened b (begin b) refl bs, opens (b ∷ bs)) (λ h. h, λ h. h)
    (λ lo hi t _ _. waits lo hi t b bs _ refl) s

-- no byte at any state
ended : (s : State) → Decides (at_start s) (Rest s [])
ended = let no : Decides false ⊥ = (λ e. absurd (false≢true e), λ h. absurd h) in each (λ _ R at. Decides at (R [])) (λ _. none, λ _. refl) no (λ _ _ _ _ _. no)

decided : (s : State) (bs : List ℕ) → Decides (at_start (run s bs)) (Rest s bs)
decided s [] = ended s
decided s (b ∷ bs) = Decides-like _ (moved s b bs).0 (moved s b bs).1 (decided (move s b) bs)

-- the recogniser accepts exactly the grammar
pub text_decided : (bs : List ℕ) → Decides (is_text bs) (Text bs)
text_decided = decided start

-- two texts in a row are one
pub text-append : (xs ys : List ℕ) → Text xs → Text ys → Text (xs ++ ys)
text-append xs ys none u = u
text-append xs ys (more {c} {cs} h t) u = subst Text (sym (append_assoc c cs ys)) (more h (text-append cs ys t u))

pub is_text-append : (xs ys : List ℕ) → is_text xs ≡ true → is_text ys ≡ true → is_text (xs ++ ys) ≡ true
is_text-append xs ys p q = (text_decided (xs ++ ys)).1 (text-append xs ys ((text_decided xs).0 p) ((text_decided ys).0 q))

-- over two lists in a row, the recogniser goes on where it stood
pub run-append : (s : State) (xs ys : List ℕ) → run s (xs ++ ys) ≡ run (run s xs) ys
run-append s [] ys = refl
run-append s (x ∷ xs) ys = run-append (move s x) xs ys

-- inside a character only 80 to BF leads on
no_tail : (lo hi : ℕ) (P : List ℕ → Type 0) → 0x80 ≤ lo → hi ≤ 0xbf → (ys : List ℕ) → among 0x80 0xbf (get_or ys 0 0) ≡ false → Then lo hi P ys → ⊥
no_tail lo hi P l u [] e h = h
no_tail lo hi P l u (y ∷ ys) e h = let r : Range lo hi y = h.0 in grind (arith, nat_tests)

outside : (s : State) (ys : List ℕ) → among 0x80 0xbf (get_or ys 0 0) ≡ false → Rest s ys → at_start s ≡ true
outside s ys e = each (λ _ R at. R ys → at ≡ true) (λ _. refl) (λ h. absurd h) (λ lo hi t l u h. absurd (no_tail lo hi (Rest t) l u ys e h)) s

-- a text that is cut where no byte of 80 to BF follows is a text
pub is_text-cut : (xs ys : List ℕ) → is_text (xs ++ ys) ≡ true → among 0x80 0xbf (get_or ys 0 0) ≡ false → is_text xs ≡ true
is_text-cut xs ys t e = outside (run start xs) ys e ((decided (run start xs) ys).0 (ap at_start (sym (run-append start xs ys)) ∙ t))
