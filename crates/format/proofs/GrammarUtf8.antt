-- The grammar of text is UTF-8: the encodings of scalar values, in a row. Assumes nothing.
use Rattle.std.proofs.Common.{◌≡◌, ℕ, ◌+◌, ◌-◌, ◌*◌, ◌/◌, ◌<◌, ◌≤◌, true, ◌⊎◌, List, [], ◌∷◌, IsUtf8, sym, subst, inl, inr, arith}
use lib.Utf8.{scalar, scalars, next, encode, encodes, scalar_cases, low_scalar}
use Rattle.std.proofs.iter.FirstChar.{one_char}
use Rattle.std.proofs.lemmas.Bool.{cases_lt, lt-ltb, le-ltb, and_parts}
use Rattle.std.proofs.lemmas.Bool.Decides.{nat_tests}
use Rattle.std.proofs.lemmas.Str.{encode_ascii, IsUtf8-nil, IsUtf8-append}
use Rattle.format.specs.Text.{Range, Tail, Char, utf8_1, utf8_2, utf8_3_E0, utf8_3_E1_EC, utf8_3_ED, utf8_3_EE_EF, utf8_4_F0, utf8_4_F1_F3, utf8_4_F4, Text, none, more}
use Rattle.format.proofs.TextLaws.{SecondOf3, SecondOf4, three-bytes, four_bytes}

-- the encoding by the size of the scalar
encode_two : (c : ℕ) → 0x80 ≤ c → c < 0x800 → encode c ≡ (192 + c / 64) ∷ next c ∷ []
unfolding encode
encode_two c l u = simp (le-ltb c 128 l, lt-ltb c 2048 u)

encode_three : (c : ℕ) → 0x800 ≤ c → c < 0x10000 → encode c ≡ (224 + c / 4096) ∷ next (c / 64) ∷ next c ∷ []
unfolding encode
encode_three c l u = simp (le-ltb c 128 (omega arith), le-ltb c 2048 l, lt-ltb c 65536 u)

encode_four : (c : ℕ) → 0x10000 ≤ c → encode c ≡ (240 + c / 262144) ∷ next (c / 4096) ∷ next (c / 64) ∷ next c ∷ []
unfolding encode
encode_four c l = simp (le-ltb c 128 (omega arith), le-ltb c 2048 (omega arith), le-ltb c 65536 l)

-- bytes of the ranges are the encoding of a scalar
utf8_two : (a b : ℕ) → Range 0xc2 0xdf a → Tail b → IsUtf8 (a ∷ b ∷ [])
utf8_two a b r s = let c = (a - 192) * 64 + (b - 128) in one_char _ c (low_scalar c (omega arith)) (grind (arith, encode_two c (omega arith) (omega arith)))

utf8_three : (a b d : ℕ) → Range 0xe0 0xef a → SecondOf3 a b → Tail d → IsUtf8 (a ∷ b ∷ d ∷ [])
utf8_three a b d r s t = let c = (a - 224) * 4096 + (b - 128) * 64 + (d - 128) in one_char _ c (grind (arith, nat_tests)) (grind (arith, encode_three c (grind arith) (omega arith)))

utf8_four : (a b d e : ℕ) → Range 0xf0 0xf4 a → SecondOf4 a b → Tail d → Tail e → IsUtf8 (a ∷ b ∷ d ∷ e ∷ [])
utf8_four a b d e r s t u = let c = (a - 240) * 262144 + (b - 128) * 4096 + (d - 128) * 64 + (e - 128) in one_char _ c (grind (arith, nat_tests)) (grind (arith, encode_four c (grind arith)))

char_utf8 : (bs : List ℕ) → Char bs → IsUtf8 bs
char_utf8 bs (utf8_1 {a} r) = one_char _ a (low_scalar a (omega arith)) (sym (encode_ascii a (omega arith)))
char_utf8 bs (utf8_2 {a} {b} r s) = utf8_two a b r s
char_utf8 bs (utf8_3_E0 {b} {c} s t) = utf8_three 0xe0 b c (grind arith) (grind arith) t
char_utf8 bs (utf8_3_E1_EC {a} {b} {c} r s t) = utf8_three a b c (grind arith) (grind arith) t
char_utf8 bs (utf8_3_ED {b} {c} s t) = utf8_three 0xed b c (grind arith) (grind arith) t
char_utf8 bs (utf8_3_EE_EF {a} {b} {c} r s t) = utf8_three a b c (grind arith) (grind arith) t
char_utf8 bs (utf8_4_F0 {b} {c} {d} s t u) = utf8_four 0xf0 b c d (grind arith) (grind arith) t u
char_utf8 bs (utf8_4_F1_F3 {a} {b} {c} {d} r s t u) = utf8_four a b c d (grind arith) (grind arith) t u
char_utf8 bs (utf8_4_F4 {b} {c} {d} s t u) = utf8_four 0xf4 b c d (grind arith) (grind arith) t u

-- a text of the grammar is UTF-8
pub text_utf8 : (bs : List ℕ) → Text bs → IsUtf8 bs
text_utf8 bs none = IsUtf8-nil
text_utf8 bs (more {c} {cs} h t) = IsUtf8-append c cs (char_utf8 c h) (text_utf8 cs t)

-- the encoding of a scalar is a character
utf8_char : (c : ℕ) → scalar c ≡ true → Char (encode c)
utf8_char c e = by (scalar_cases c e) (cases_lt c 0x80) (cases_lt c 0x800) (cases_lt c 0x10000)
  where
    by : (c < 55296) ⊎ ((57344 ≤ c) × (c < 1114112)) → (c < 0x80) ⊎ (0x80 ≤ c) → (c < 0x800) ⊎ (0x800 ≤ c) → (c < 0x10000) ⊎ (0x10000 ≤ c) → Char (encode c)
    by s (inl u) _ _ = subst Char (sym (encode_ascii c u)) (utf8_1 (omega arith, omega arith))
    by s (inr l) (inl u) _ = subst Char (sym (encode_two c l u)) (utf8_2 (omega arith, omega arith) (omega arith, omega arith))
    by s (inr k) (inr l) (inl u) = subst Char (sym (encode_three c l u)) (three-bytes _ _ _ (omega arith, omega arith) (grind arith) (omega arith, omega arith))
    by s (inr k) (inr m) (inr l) = subst Char (sym (encode_four c l)) (four_bytes _ _ _ _ (omega arith, omega arith) (grind arith) (omega arith, omega arith) (omega arith, omega arith))

encodes_text : (cs : List ℕ) → scalars cs ≡ true → Text (encodes cs)
encodes_text [] e = none
encodes_text (c ∷ cs) e = let p = and_parts (scalar c) (scalars cs) e in more (utf8_char c p.0) (encodes_text cs p.1)

-- and UTF-8 is a text of the grammar
pub utf8_text : (bs : List ℕ) → IsUtf8 bs → Text bs
utf8_text bs u = subst Text u.1.1 (encodes_text u.0 u.1.0)
