-- What is read of an archive that is sound. Assumes nothing.
use Rattle.std.proofs.Common.{◌≡◌, ℕ, zero, suc, ◌+◌, ◌*◌, ◌%◌, ◌<◌, ◌≤◌, ◌&&◌, Bool, true, false, cond, ◌==◌, nat_le, List, ◌++◌, length, IfOk, Result, Ok, Err, refl, sym, ◌∙◌, ap, subst, arith}
use Rattle.std.proofs.lemmas.Bool.{leb-true, le-leb}
use Rattle.format.specs.Places.{limit, stop}
use Rattle.format.specs.Orders.{little, low_first}
use Rattle.format.specs.Answers.{Answer, good, bad, both}
use Rattle.format.specs.Sheets.{pointer_mark, slice_mark}
use Rattle.format.specs.Meaning.{Meaning}
use Rattle.format.specs.Texts.{text_at}
use Rattle.format.specs.Items.{row, read_items}
use Rattle.format.specs.Links.{linked, Span, slice_at, held}
use Rattle.format.specs.Archive.{rooted, sheet_at, is_valid_deep}
use Rattle.format.proofs.AnswerLaws.{unless-true, both-good, both_parts, unless_parts, inside-good, good-same}
use Rattle.format.proofs.DistanceLaws.{sits-good}
use Rattle.lists.proofs.Sits.{slice_sits}
use Rattle.kind.specs.Asked.{Seated}
use Rattle.plate_archive.specs.declared.roots.Which.{Which}
use Rattle.plate_archive.specs.declared.roots.Which.TheVariants.{Numbers, Casts, Parts}
use Rattle.plate_archive.specs.declared.roots.PerList.{PerList}
use Rattle.plate_archive.specs.declared.items.Items.{Items}
use Rattle.plate_archive.specs.declared.fault.Fault.{Fault}
use Rattle.plate_archive.specs.Archives.{text, slice_of, pointer_to, target_at, item, list, root, root_place, items_at, place_of, items_of, sheet_of, Three, Judged, sound, wrong, uneven, no_plates, then, on, each, even, check, AllTexts, IsSound, Readable}
use Rattle.plate_archive.specs.Told.{judged, spans_of}

-- a value that sits within the limit is a root, and the other way round
rooted-seated : (m : Meaning) (a : List ℕ) (p : ℕ) → Seated m a p → rooted m a p ≡ good p
rooted-seated m a p s = unless-true (nat_le (length a) limit) _ _ (le-leb (length a) limit s.capped) ∙ sits-good p p m.size m.align (length a) s.within s.aligned

root_capped : (m : Meaning) (a : List ℕ) (p q : ℕ) → rooted m a p ≡ good q → length a ≤ limit
root_capped m a p q h = leb-true (length a) limit (unless_parts (nat_le (length a) limit) _ _ q h).0

-- texts and slices have heads of 8 bytes, aligned by 4
record Head (m : Meaning) : Type 0 where
  size : m.size ≡ 8
  align : m.align ≡ 4

module _ (m : Meaning) (head : Head m) (a : List ℕ) where
  -- each of items sits, and is read
  record Each (s : Span) : Type 0 where
    seated : (k : ℕ) → k < s.count → Seated m a (s.place + k * 8)
    read : (k : ℕ) → k < s.count → (r : List ℕ) × (m.reading a (s.place + k * 8) ≡ good r)

  row_read : (n p : ℕ) (i : List ℕ) → read_items m n a p ≡ good i → (k : ℕ) → k < n → (r : List ℕ) × (m.reading a (p + k * 8) ≡ good r)
  row_read zero p i h k l = absurd (omega arith)
  row_read (suc n) p i h zero l =
      let x = both_parts (m.reading a p) _ i h in
      let e : p + 0 * 8 ≡ p = omega arith in
      (x.0, ap (m.reading a) e ∙ x.1.0)
  row_read (suc n) p i h (suc k) l =
      let x = both_parts (m.reading a p) _ i h in
      let y = both_parts (read_items m n a (p + m.size)) _ i x.1.1 in
      let z = row_read n (p + m.size) y.0 y.1.0 k (omega arith) in
      let size = head.size in
      let e : p + suc k * 8 ≡ p + m.size + k * 8 = omega arith in
      (z.0, ap (m.reading a) e ∙ z.1)

  -- a slice that is read
  slice_read : length a ≤ limit → (p : ℕ) (r : List ℕ) → (slice_of m).reading a p ≡ good r → (s : Span) × ((slice_at m little a p ≡ good s) × Each s)
  slice_read capped p r h =
      let x = both_parts (slice_at m little a p) (λ s. held (slice_mark ++ low_first 4 s.count) (row m s.count) a s.place) r h in
      let s = x.0 in
      let y = both_parts ((row m s.count).reading a s.place) _ r (inside-good _ r x.1.1) in (
        s,
        (
          x.1.0,
          record {
            seated = λ k l.
                let t = slice_sits m little a p s x.1.0 (λ z. absurd (omega arith)) in
                let size = head.size in
                let within : s.place + stop (s.count * 8) ≤ length a = subst (λ z. s.place + stop (s.count * z) ≤ length a) size t.0 in
                let aligned : s.place % 4 ≡ 0 = subst (λ z. s.place % z ≡ 0) head.align t.1 in
                record {
                  capped = capped;
                  within = omega arith;
                  aligned = subst (λ z. (s.place + k * 8) % z ≡ 0) (sym head.align) (omega arith);
                };
            read = row_read s.count s.place y.0 y.1.0;
          },
        ),
      )

-- what a pointer leads to is read where all that is read from the pointer is without a fault
target_read : (m : Meaning) (a : List ℕ) (p q r : ℕ) → is_valid_deep (pointer_to m) a p ≡ good r → target_at m a p ≡ good q → (l : List ℕ) × (m.reading a q ≡ good l)
target_read m a p q r deep step =
    let whole = both_parts (sheet_at (pointer_to m) a p) (λ _. good p) r deep in
    let rest = both_parts (rooted (pointer_to m) a p) (λ _. (pointer_to m).reading a p) whole.0 whole.1.0 in
    let far = both_parts (linked m little a p) (held pointer_mark m a) whole.0 rest.1.1 in
    let led = both_parts (rooted (pointer_to m) a p) (λ _. linked m little a p) q step in
    let read = both_parts (m.reading a far.0) (λ s. good (pointer_mark ++ s)) whole.0 (inside-good _ whole.0 far.1.1) in
    let there : good far.0 ≡ good q = sym {b = good far.0} far.1.0 ∙ led.1.1 in
    (read.0, subst (λ z. m.reading a z ≡ good read.0) (good-same far.0 q there) read.1.0)

-- a slice whose items are told: each is read, and so is the sheet of the slice
record Told (m : Meaning) (head : Head m) (a : List ℕ) (q : ℕ) (s : Span) : Type 0 where
  items : Each m head a s
  sheet : (l : List ℕ) × (sheet_at (slice_of m) a q ≡ good l)

items_read : (m : Meaning) (head : Head m) (a : List ℕ) (q : ℕ) (l : List ℕ) (s : Span) → (slice_of m).reading a q ≡ good l → items_at m a q ≡ good s → Told m head a q s
items_read m head a q l s read step =
    let here = both_parts (rooted (slice_of m) a q) (λ _. slice_at m little a q) s step in
    let found = slice_read m head a (root_capped (slice_of m) a q here.0 here.1.0) q l read in
    let same_items : good found.0 ≡ good s = sym {b = good found.0} found.1.0 ∙ here.1.1 in record {
      items = subst (Each m head a) (good-same found.0 s same_items) found.1.1;
      sheet = (l, both-good (rooted (slice_of m) a q) here.0 (λ _. (slice_of m).reading a q) here.1.0 ∙ read);
    }

item_head : (w : Which) → Head (item w)
item_head Numbers = record { size = refl; align = refl }
item_head Casts = record { size = refl; align = refl }
item_head Parts = record { size = refl; align = refl }

-- the same of a list
record Read (w : Which) (a : List ℕ) (s : Span) : Type 0 where
  items : Each (item w) (item_head w) a s
  sheet : (l : List ℕ) × (sheet_of w a ≡ good l)

list_read : (w : Which) (a : List ℕ) (s : Span) → items_of w a ≡ good s → Read w a s
unfolding items_of place_of sheet_of
list_read w a s h =
    let deep = both_parts (is_valid_deep (root w) a (root_place w)) (λ _. both (place_of w a) (items_at (item w) a)) s h in
    let steps = both_parts (place_of w a) (items_at (item w) a) s deep.1.1 in
    let read = target_read (list w) a (root_place w) steps.0 deep.0 deep.1.0 steps.1.0 in
    let told = items_read (item w) (item_head w) a steps.0 read.0 s read.1 steps.1.1 in record {
      items = told.items;
      sheet = (told.sheet.0, both-good (place_of w a) steps.0 (sheet_at (list w) a) steps.1.0 ∙ told.sheet.1);
    }

-- texts that are read
texts_read : (a : List ℕ) (head : Head text) (s : Span) → Each text head a s → AllTexts a s
texts_read a head s e k l =
    let p = s.place + k * 8 in
    let read = e.read k l in
    let x = both_parts (text_at little a p) _ read.0 read.1 in
    (x.0.bytes, both-good (rooted text a p) p _ (rooted-seated text a p (e.seated k l)) ∙ both-good (text_at little a p) x.0 _ x.1.0)

lists_read : (a : List ℕ) (head : Head (slice_of text)) (s : Span) → Each (slice_of text) head a s → (k : ℕ) → k < s.count → (t : Span) × ((items_at text a (s.place + k * 8) ≡ good t) × AllTexts a t)
lists_read a head s e k l =
    let p = s.place + k * 8 in
    let seat = e.seated k l in
    let read = e.read k l in
    let x = slice_read text (item_head Numbers) a seat.capped p read.0 read.1 in
    (x.0, (both-good (rooted (slice_of text) a p) p _ (rooted-seated (slice_of text) a p seat) ∙ x.1.0, texts_read a (item_head Numbers) x.0 x.1.1))

-- what is found, taken apart
then_parts : {A B : Type 0} (x : Judged A) (f : A → Judged B) (b : B) → then x f ≡ sound b → (a : A) × ((x ≡ sound a) × (f a ≡ sound b))
then_parts (sound a) f b h = (a, (refl, h))
then_parts (wrong e) f b h = let z : ◌≡◌ {A = ℕ} 0 1 = cc in absurd (omega arith)

sound-same : {A : Type 0} (a b : A) → sound a ≡ sound b → a ≡ b
sound-same a b h = cc

on-sound : {A : Type 0} (w : Which) (x : Answer A) (a : A) → on w x ≡ sound a → x ≡ good a
on-sound w (good b) a h = ap good (sound-same b a h)
on-sound w (bad e) a h = let z : ◌≡◌ {A = ℕ} 0 1 = cc in absurd (omega arith)

record All {A : Type 0} (f : Which → Answer A) (t : Three A) : Type 0 where
  numbers : f Numbers ≡ good t.numbers
  casts : f Casts ≡ good t.casts
  parts : f Parts ≡ good t.parts

each_parts : {A : Type 0} (f : Which → Answer A) (t : Three A) → each f ≡ sound t → All f t
each_parts f t h =
    let n = then_parts (on Numbers (f Numbers)) _ t h in
    let c = then_parts (on Casts (f Casts)) _ t n.1.1 in
    let p = then_parts (on Parts (f Parts)) _ t c.1.1 in
    let is = sound-same _ t p.1.1 in record {
      numbers = on-sound Numbers (f Numbers) n.0 n.1.0 ∙ ap (λ (z : Three _). good z.numbers) is;
      casts = on-sound Casts (f Casts) c.0 c.1.0 ∙ ap (λ (z : Three _). good z.casts) is;
      parts = on-sound Parts (f Parts) p.0 p.1.0 ∙ ap (λ (z : Three _). good z.parts) is;
    }

each-is : {A : Type 0} (f : Which → Answer A) (t : Three A) → All f t → each f ≡ sound t
each-is f t h =
    ap (λ z. then (on Numbers z) (λ n. then (on Casts (f Casts)) (λ c. then (on Parts (f Parts)) (λ p. sound (record { numbers = n; casts = c; parts = p }))))) h.numbers ∙
    (ap (λ z. then (on Casts z) (λ c. then (on Parts (f Parts)) (λ p. sound (record { numbers = t.numbers; casts = c; parts = p })))) h.casts ∙
    ap (λ z. then (on Parts z) (λ p. sound (record { numbers = t.numbers; casts = t.casts; parts = p }))) h.parts)

-- as many of each, and not none
even-is : (t u : Three Span) → even t ≡ sound u → t ≡ u
even-is t u h = as_many (t.casts.count == n && t.parts.count == n) refl where
  n : ℕ
  n = t.numbers.count

  as_many : (b : Bool) → (t.casts.count == n && t.parts.count == n) ≡ b → t ≡ u
  as_many false e =
      let x = sym (ap (λ z. cond z (cond (n == 0) (wrong no_plates) (sound t)) (wrong (uneven n t.casts.count t.parts.count))) e) ∙ h in
      let z : ◌≡◌ {A = ℕ} 0 1 = cc in absurd (omega arith)
  as_many true e = some (n == 0) refl where
    left : cond (n == 0) (wrong no_plates) (sound t) ≡ sound u
    left = sym (ap (λ z. cond z (cond (n == 0) (wrong no_plates) (sound t)) (wrong (uneven n t.casts.count t.parts.count))) e) ∙ h

    some : (b : Bool) → (n == 0) ≡ b → t ≡ u
    some true e =
        let x = sym (ap (λ z. cond z (wrong no_plates) (sound t)) e) ∙ left in
        let z : ◌≡◌ {A = ℕ} 0 1 = cc in absurd (omega arith)
    some false e = sound-same t u (sym (ap (λ z. cond z (wrong no_plates) (sound t)) e) ∙ left)

-- an archive that is found sound is read
pub sound-readable : (a : List ℕ) (t : Three Span) → sound t ≡ check a → Readable a t
sound-readable a t h =
    let x = then_parts (each (λ w. items_of w a)) even t (sym h) in
    let lists = each_parts (λ w. items_of w a) t (x.1.0 ∙ ap sound (even-is x.0 t x.1.1)) in
    let n = list_read Numbers a t.numbers lists.numbers in
    let c = list_read Casts a t.casts lists.casts in
    let p = list_read Parts a t.parts lists.parts in
    let copied : Three (List ℕ) = record { numbers = n.sheet.0; casts = c.sheet.0; parts = p.sheet.0 } in record {
      numbers = texts_read a (item_head Numbers) t.numbers n.items;
      casts = texts_read a (item_head Casts) t.casts c.items;
      parts = lists_read a (item_head Parts) t.parts p.items;
      copied = (copied, ap (λ z. then z (λ _. each (λ w. sheet_of w a))) (sym h) ∙ each-is (λ w. sheet_of w a) copied (record { numbers = n.sheet.1; casts = c.sheet.1; parts = p.sheet.1 }));
    }

pub sound_if : (r : Result (PerList Items) Fault) (a : List ℕ) → judged spans_of r ≡ check a → IfOk r (λ _. IsSound (check a))
sound_if (Ok t) a h = subst IsSound h tt
sound_if (Err e) a h = tt

pub readable_if : (r : Result (PerList Items) Fault) (a : List ℕ) → judged spans_of r ≡ check a → IfOk r (λ t. Readable a (spans_of t))
readable_if (Ok t) a h = sound-readable a (spans_of t) h
readable_if (Err e) a h = tt
