-- The recogniser of text, that decides the grammar byte by byte. Assumes nothing.
use Rattle.std.specs.Prelude.{ℕ, Bool, true, false, ◌&&◌, List, [], ◌∷◌, ◌==◌, nat_le}

-- where it stands: at the start of a character, one, two or three bytes owed, or just after a byte that narrows the next; and where no text can come of what was read
pub data State : Type 0 where
  start one two three after_E0 after_ED after_F0 after_F4 broken : State

abbrev pub among : ℕ → ℕ → ℕ → Bool
among lo hi b = nat_le lo b && nat_le b hi

abbrev pub pick : Bool → State → State → State
pick true s t = s
pick false s t = t

-- the move at the first byte of a character
abbrev pub begin : ℕ → State
begin b =
    pick (nat_le b 0x7f) start (pick (among 0xc2 0xdf b) one (pick (b == 0xe0) after_E0 (pick (b == 0xed) after_ED (pick (among 0xe1 0xef b) two
    (pick (b == 0xf0) after_F0 (pick (among 0xf1 0xf3 b) three (pick (b == 0xf4) after_F4 broken)))))))

abbrev pub move : State → ℕ → State
move start b = begin b
move one b = pick (among 0x80 0xbf b) start broken
move two b = pick (among 0x80 0xbf b) one broken
move three b = pick (among 0x80 0xbf b) two broken
move after_E0 b = pick (among 0xa0 0xbf b) one broken
move after_ED b = pick (among 0x80 0x9f b) one broken
move after_F0 b = pick (among 0x90 0xbf b) two broken
move after_F4 b = pick (among 0x80 0x8f b) two broken
move broken b = broken

abbrev pub run : State → List ℕ → State
run s [] = s
run s (b ∷ bs) = run (move s b) bs

abbrev pub at_start : State → Bool
at_start start = true
at_start one = false
at_start two = false
at_start three = false
at_start after_E0 = false
at_start after_ED = false
at_start after_F0 = false
at_start after_F4 = false
at_start broken = false

abbrev pub is_text : List ℕ → Bool
is_text bs = at_start (run start bs)
