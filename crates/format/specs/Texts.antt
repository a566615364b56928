-- Text and inline text. Assumes nothing.
use Rattle.std.specs.Prelude.{ℕ, zero, suc, ◌+◌, ◌-◌, min, Bool, cond, not, List, [], ◌++◌, length, take, ◌==◌, nat_le, nat_lt, slice_index}
use Rattle.format.specs.Places.{part, up, zeros, stop}
use Rattle.format.specs.Orders.{Order}
use Rattle.format.specs.Recogniser.{is_text, among}
use Rattle.format.specs.Answers.{Answer, good, fault, unless, both}
use Rattle.format.specs.Sheets.{text_mark, inline_mark, scan_text, text_of, text_sheet}
use Rattle.format.specs.Meaning.{Meaning, sits}

-- where the distance n leads that stands at p: it is signed, of 32 bits, counted from p; below place 0 is 21
abbrev pub leads : ℕ → ℕ → Answer ℕ
leads p n = unless (nat_lt n 2147483648) (unless (nat_le 4294967296 (p + n)) (fault 21 p) (good ((p + n) - 4294967296))) (good (p + n))

abbrev pub target : Order → List ℕ → ℕ → Answer ℕ
target o a p = leads p (o.take_back (part p 4 a))

-- a part of an archive, with its place
pub record Part : Type 0 where
  pub place : ℕ
  pub bytes : List ℕ

-- the n bytes at q, if they are text: else 23 at the head p
abbrev pub if_text : List ℕ → ℕ → ℕ → ℕ → Answer Part
if_text a p q n = unless (is_text (part q n a)) (fault 23 p) (good (record { place = q; bytes = part q n a }))

-- the text of n bytes whose head is at p; one of no bytes is found behind its length, and its distance is ignored
abbrev pub text_of_length : Order → List ℕ → ℕ → ℕ → Answer Part
text_of_length o a p n =
    unless (n == 0) (both (both (target o a (p + 4)) (λ q. sits (p + 4) q n 1 (length a))) (λ q. if_text a p q n)) (good (record { place = p + 4; bytes = [] }))

abbrev pub text_at : Order → List ℕ → ℕ → Answer Part
text_at o a p = text_of_length o a p (o.take_back (part p 4 a))

abbrev pub text_kind : Order → Meaning
text_kind o = record {
  size = 8;
  align = 4;
  scan = scan_text text_mark;
  kept = λ v. v;
  lay = λ v h t. let bs = text_of v in record { head = o.lay 4 (length bs) ++ o.lay 4 (t - (h + 4)); tail = bs; end = stop (t + length bs); widest = 4 };
  shallow = λ a p. both (text_at o a p) (λ _. good p);
  reading = λ a p. both (text_at o a p) (λ x. good (text_sheet text_mark x.bytes));
}

-- a place where a text may be cut: its end, or a byte that is not 80 to BF hexadecimal
abbrev pub boundary : List ℕ → ℕ → Bool
boundary bs n = cond (nat_le (length bs) n) (n == length bs) (not (among 0x80 0xbf (slice_index bs n)))

-- the longest beginning of at most n bytes that ends on a boundary
abbrev pub cut : ℕ → List ℕ → List ℕ
cut zero bs = []
cut (suc n) bs = cond (boundary bs (suc n)) (take (suc n) bs) (cut n bs)

-- an inline length above the capacity c reads as c
abbrev pub inline_at : ℕ → Order → List ℕ → ℕ → Answer Part
inline_at c o a p = if_text a p (p + 4) (min c (o.take_back (part p 4 a)))

abbrev pub inline_size : ℕ → ℕ
inline_size c = up (4 + c) 4

abbrev pub inline_kind : ℕ → Order → Meaning
inline_kind c o = record {
  size = inline_size c;
  align = 4;
  scan = scan_text inline_mark;
  kept = λ v. text_sheet inline_mark (cut c (text_of v));
  lay = λ v h t. let bs = cut c (text_of v) in record { head = o.lay 4 (length bs) ++ (bs ++ zeros (inline_size c - (4 + length bs))); tail = []; end = t; widest = 4 };
  shallow = λ a p. both (inline_at c o a p) (λ _. good p);
  reading = λ a p. both (inline_at c o a p) (λ x. good (text_sheet inline_mark x.bytes));
}
