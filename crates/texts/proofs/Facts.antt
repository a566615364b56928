-- What a text that is found in a sheet says, and what is laid for one. Assumes nothing.
use Rattle.std.proofs.Common.{◌≡◌, ℕ, ◌+◌, ◌-◌, ◌<◌, ◌≤◌, List, [], ◌++◌, length, take, drop, sym, ap, ◌∙◌, arith, length-drop}
use Rattle.std.proofs.lemmas.List.{length-append, drop-drop, append-nil, append_assoc}
use Rattle.format.specs.Places.{part, put}
use Rattle.format.specs.Orders.{Order, Undoes, number, low_first}
use Rattle.format.specs.Answers.{good}
use Rattle.format.specs.Sheets.{at_place, scan_text, number_of, text_of, text_sheet}
use Rattle.format.specs.Items.{first_of}
use Rattle.texts.specs.Found.{Stands, Found}
use Rattle.format.proofs.AnswerLaws.{at_place-end}
use Rattle.format.proofs.OrderLaws.{length-low_first, width_4}
use Rattle.format.proofs.PutLaws.{put-put}
use Rattle.format.proofs.SheetLaws.{scan_text-end, number_of_is}
use Rattle.format.proofs.FrontLaws.{part_front}

-- some text in a sheet lies within it
pub stands-within : (s : List ℕ) (p : ℕ) → Stands s p → p + (6 + number_of 4 (drop p s)) ≤ length s
stands-within s p x =
    let r = at_place-end (scan_text x.mark) s p x.next x.found in
    let k = (scan_text-end x.mark (drop p s) r.0 r.1.0).1 in
    let l = length-drop p s in
    omega arith

-- the number behind its mark is how many bytes it has, and so many are there
pub length-behind : (s : List ℕ) (p n : ℕ) → Stands s p → n ≡ number (part (p + 2) 4 s) → (n ≡ number_of 4 (drop p s)) × (p + 6 + n ≤ length s)
length-behind s p n x h =
    let e = h ∙ sym (number_of_is x.mark 4 s p) in
    let w = stands-within s p x in
    (e, omega arith)

-- what is behind its length is the text of its own bytes, and it ends behind that
pub found : (mark s : List ℕ) (p q n : ℕ) → at_place (scan_text mark) s p ≡ good q → n ≡ number_of 4 (drop p s) → Found mark s p (p + 6 + n) (take ((p + 6 + n) - (p + 6)) (drop (p + 6) s))
found mark s p q n h e =
    let v = drop p s in
    let m = number_of 4 v in
    let r = at_place-end (scan_text mark) s p q h in
    let k = scan_text-end mark v r.0 r.1.0 in
    let fits : 6 + m ≤ length v = k.1 in
    let end : q ≡ p + 6 + n = r.1.1 ∙ (ap (λ z. p + z) k.0 ∙ omega arith) in
    let count : m ≡ (p + 6 + n) - (p + 6) = omega arith in
    let own : (i j : ℕ) → i + j ≤ 6 + m → part i j (take (6 + m) v) ≡ part i j v = λ i j l. ap (part i j) (sym (append-nil (take (6 + m) v))) ∙ part_front v [] (6 + m) i j l fits in
    record {
      next = h ∙ ap good end;
      text =
          ap (λ z. text_of (first_of z v)) (r.1.0 ∙ ap good k.0) ∙
          (ap (λ z. part 6 (number z) (take (6 + m) v)) (own 2 4 (omega arith)) ∙ (own 6 m (omega arith) ∙ (ap (take m) (drop-drop 6 p s) ∙ ap (λ z. take z (drop (p + 6) s)) count)));
    }

-- a mark, a number of four bytes behind it, and a text behind that
pub put-sheet : (out m₁ m₂ new mark bs : List ℕ) (to : ℕ) → length mark ≡ 2 → to ≤ length out → m₁ ≡ put out to mark → m₂ ≡ put m₁ (to + 2) (low_first 4 (length bs)) → new ≡ put m₂ (to + 6) bs → new ≡ put out to (text_sheet mark bs)
put-sheet out m₁ m₂ new mark bs to two room a b c =
    let n = low_first 4 (length bs) in
    let l = length-low_first 4 (length bs) in
    let k = length-append mark n in
    let first : m₂ ≡ put out to (mark ++ n) = b ∙ (ap (λ z. put z (to + 2) n) a ∙ put-put out to mark n (to + 2) room (omega arith)) in
    c ∙ (ap (λ z. put z (to + 6) bs) first ∙ (put-put out to (mark ++ n) bs (to + 6) room (omega arith) ∙ simp append_assoc))

pub sheet-length : (mark bs : List ℕ) → length mark ≡ 2 → length (text_sheet mark bs) ≡ 6 + length bs
sheet-length mark bs two =
    let n = low_first 4 (length bs) in
    let k = length-append mark (n ++ bs) in
    let l = length-append n bs in
    let j = length-low_first 4 (length bs) in
    omega arith

-- a number of four bytes, and others right behind it
pub number_then : (o : Order) → Undoes o → (out mid new xs : List ℕ) (h n : ℕ) → n < 4294967296 → h ≤ length out → mid ≡ put out h (o.lay 4 n) → new ≡ put mid (h + 4) xs → new ≡ put out h (o.lay 4 n ++ xs)
number_then o law out mid new xs h n small room a b =
    let l = law.long 4 n width_4 small in
    b ∙ (ap (λ z. put z (h + 4) xs) a ∙ put-put out h (o.lay 4 n) xs (h + 4) room (omega arith))
