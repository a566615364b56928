-- An archive of plates: its three lists, and what is found of them. Assumes nothing.
use Rattle.std.specs.Prelude.{◌≡◌, ℕ, ◌+◌, ◌*◌, ◌<◌, ◌&&◌, cond, List, ◌==◌}
use Rattle.std.specs.Str.{bytes_eq}
use Rattle.format.specs.Orders.{little}
use Rattle.format.specs.Answers.{Answer, Fault, good, bad, both}
use Rattle.format.specs.Meaning.{Meaning}
use Rattle.format.specs.Texts.{text_kind, text_at}
use Rattle.format.specs.Links.{pointer, slice, linked, Span, slice_at}
use Rattle.format.specs.Archive.{rooted, is_valid_deep, sheet_at}
use Rattle.plate_archive.specs.declared.roots.Which.{Which}
use Rattle.plate_archive.specs.declared.roots.Which.TheVariants.{Numbers, Casts, Parts}

-- a text, a slice of values of m, and a pointer to one: numbers and distances are little end first
abbrev pub text : Meaning
text = text_kind little

abbrev pub slice_of : Meaning → Meaning
slice_of m = slice m little

abbrev pub pointer_to : Meaning → Meaning
pointer_to m = pointer m little

-- the items of a list: the number and the cast of each plate are texts, its parts a slice of texts
abbrev pub item : Which → Meaning
item Numbers = text
item Casts = text
item Parts = slice_of text

-- a list, as a slice of its items
abbrev pub list : Which → Meaning
list w = slice_of (item w)

-- the pointer to a list, and its place
abbrev pub root : Which → Meaning
root w = pointer_to (list w)

abbrev pub root_place : Which → ℕ
root_place Numbers = 0
root_place Casts = 4
root_place Parts = 8

-- one step from the pointer at p, and from the slice at p: where a value of m is, and where items of m are and how many
abbrev pub target_at : Meaning → List ℕ → ℕ → Answer ℕ
target_at m a p = both (rooted (pointer_to m) a p) (λ _. linked m little a p)

abbrev pub items_at : Meaning → List ℕ → ℕ → Answer Span
items_at m a p = both (rooted (slice_of m) a p) (λ _. slice_at m little a p)

-- the text at p
abbrev pub text_of : List ℕ → ℕ → Answer (List ℕ)
text_of a p = both (rooted text a p) (λ _. both (text_at little a p) (λ x. good x.bytes))

-- where a list is
unfoldable pub place_of : Which → List ℕ → Answer ℕ
place_of w a = target_at (list w) a (root_place w)

-- the items of a list, once all that is read from its pointer was found without a fault
unfoldable pub items_of : Which → List ℕ → Answer Span
items_of w a = both (is_valid_deep (root w) a (root_place w)) (λ _. both (place_of w a) (items_at (item w) a))

-- the sheet of a list
unfoldable pub sheet_of : Which → List ℕ → Answer (List ℕ)
sheet_of w a = both (place_of w a) (sheet_at (list w) a)

-- something of each of the three lists
pub record Three (A : Type 0) : Type 0 where
  pub numbers : A
  pub casts : A
  pub parts : A

-- what is wrong: a list is refused; there are not as many numbers, casts and lists of parts; there are no plates; a list is not the one that it was built from; or there was no memory, which nothing below says
pub data Wrong : Type 0 where
  refused : Which → Fault → Wrong
  uneven : ℕ → ℕ → ℕ → Wrong
  no_plates : Wrong
  altered : Which → Wrong
  no_memory : Wrong

-- what is found: a value, or what is wrong
pub data Judged (A : Type 0) : Type 0 where
  sound : A → Judged A
  wrong : Wrong → Judged A

-- nothing is wrong
abbrev pub IsSound : {A : Type 0} → Judged A → Type 0
IsSound (sound a) = Unit {0}
IsSound (wrong x) = ⊥

-- the second, which is given what the first finds
abbrev pub then : {A B : Type 0} → Judged A → (A → Judged B) → Judged B
then (sound a) f = f a
then (wrong x) f = wrong x

-- an answer on one list
abbrev pub on : {A : Type 0} → Which → Answer A → Judged A
on w (good a) = sound a
on w (bad e) = wrong (refused w e)

-- the answers on each list, or the first that is refused
abbrev pub each : {A : Type 0} → (Which → Answer A) → Judged (Three A)
each f = then (on Numbers (f Numbers)) (λ n. then (on Casts (f Casts)) (λ c. then (on Parts (f Parts)) (λ p. sound (record { numbers = n; casts = c; parts = p }))))

-- as many numbers, casts and lists of parts, one at least
abbrev pub even : Three Span → Judged (Three Span)
even t =
    cond (t.casts.count == t.numbers.count && t.parts.count == t.numbers.count)
    (cond (t.numbers.count == 0) (wrong no_plates) (sound t))
    (wrong (uneven t.numbers.count t.casts.count t.parts.count))

-- the items of the three lists of an archive, or what is wrong with it
abbrev pub check : List ℕ → Judged (Three Span)
check a = then (each (λ w. items_of w a)) even

-- the sheets of the three lists of an archive that is sound
abbrev pub sheets : List ℕ → Judged (Three (List ℕ))
sheets a = then (check a) (λ _. each (λ w. sheet_of w a))

-- that the sheet of a list is the one that it was built from
abbrev pub same : Which → List ℕ → List ℕ → Judged (Unit {0})
same w s b = cond (bytes_eq s b) (sound tt) (wrong (altered w))

-- that each sheet is the one that its list was built from
abbrev pub all_same : Three (List ℕ) → Three (List ℕ) → Judged (Unit {0})
all_same s b = then (same Numbers s.numbers b.numbers) (λ _. then (same Casts s.casts b.casts) (λ _. same Parts s.parts b.parts))

-- that an archive is sound, and its sheets are those that it was built from
abbrev pub verified : Three (List ℕ) → List ℕ → Judged (Unit {0})
verified b a = then (sheets a) (λ s. all_same s b)

-- each of texts is read: the heads of texts, as of slices, are 8 bytes long
abbrev pub AllTexts : List ℕ → Span → Type 0
AllTexts a s = (k : ℕ) → k < s.count → (bs : List ℕ) × (text_of a (s.place + k * 8) ≡ good bs)

-- of an archive with such lists: every plate has its number, its cast and its parts, and each list its sheet
pub record Readable (a : List ℕ) (t : Three Span) : Type 0 where
  pub numbers : AllTexts a t.numbers
  pub casts : AllTexts a t.casts
  pub parts : (k : ℕ) → k < t.parts.count → (s : Span) × ((items_at text a (t.parts.place + k * 8) ≡ good s) × AllTexts a s)
  pub copied : (s : Three (List ℕ)) × (sheets a ≡ sound s)
