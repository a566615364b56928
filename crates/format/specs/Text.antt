-- Text: the grammar of UTF-8 in RFC 3629, section 4, production by production. Assumes nothing.
use Rattle.std.specs.Prelude.{ℕ, ◌≤◌, List, [], ◌∷◌, ◌++◌}

-- %xLO-HI
abbrev pub Range : ℕ → ℕ → ℕ → Type 0
Range lo hi b = (lo ≤ b) × (b ≤ hi)

-- UTF8-tail = %x80-BF
abbrev pub Tail : ℕ → Type 0
Tail = Range 0x80 0xbf

-- UTF8-char = UTF8-1 / UTF8-2 / UTF8-3 / UTF8-4
pub data Char : List ℕ → Type 0 where
  utf8_1 : {a : ℕ} → Range 0x00 0x7f a → Char (a ∷ [])
  utf8_2 : {a b : ℕ} → Range 0xc2 0xdf a → Tail b → Char (a ∷ b ∷ [])
  utf8_3_E0 : {b c : ℕ} → Range 0xa0 0xbf b → Tail c → Char (0xe0 ∷ b ∷ c ∷ [])
  utf8_3_E1_EC : {a b c : ℕ} → Range 0xe1 0xec a → Tail b → Tail c → Char (a ∷ b ∷ c ∷ [])
  utf8_3_ED : {b c : ℕ} → Range 0x80 0x9f b → Tail c → Char (0xed ∷ b ∷ c ∷ [])
  utf8_3_EE_EF : {a b c : ℕ} → Range 0xee 0xef a → Tail b → Tail c → Char (a ∷ b ∷ c ∷ [])
  utf8_4_F0 : {b c d : ℕ} → Range 0x90 0xbf b → Tail c → Tail d → Char (0xf0 ∷ b ∷ c ∷ d ∷ [])
  utf8_4_F1_F3 : {a b c d : ℕ} → Range 0xf1 0xf3 a → Tail b → Tail c → Tail d → Char (a ∷ b ∷ c ∷ d ∷ [])
  utf8_4_F4 : {b c d : ℕ} → Range 0x80 0x8f b → Tail c → Tail d → Char (0xf4 ∷ b ∷ c ∷ d ∷ [])

-- UTF8-octets = *( UTF8-char )
pub data Text : List ℕ → Type 0 where
  none : Text []
  more : {c cs : List ℕ} → Char c → Text cs → Text (c ++ cs)
