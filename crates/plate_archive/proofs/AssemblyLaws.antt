-- What calls one behind another leave, by what each of them leaves. Assumes nothing.
use Rattle.std.proofs.Common.{◌≡◌, ℕ, List, ap, ◌∙◌}
use Rattle.format.specs.Answers.{Answer, Fault, good, bad}
use Rattle.format.specs.Meaning.{Meaning}
use Rattle.format.specs.Builder as builders
use Rattle.format.specs.Builder.{Builder, After, step}
use Rattle.plate_archive.specs.declared.roots.Which.{Which}
use Rattle.plate_archive.specs.declared.roots.Which.TheVariants.{Numbers, Casts, Parts}
use Rattle.plate_archive.specs.Archives.{list, Three}
use Rattle.plate_archive.specs.Assembly.{Run, tell, refuse, by, then, lead, build, build_lists}

-- behind a first that answers a, or is refused
module _ {A B : Type 0} (first : Run A) (next : A → Run B) (b : Builder) (buf : List ℕ) (c : Builder) (s : List ℕ) where
  pub goes_on : (a : A) → tell a c s ≡ first b buf → next a c s ≡ then first next b buf
  goes_on a h = ap (λ x. by next x.answer x.builder x.buffer) h

  pub stops : (e : Fault) → refuse e c s ≡ first b buf → refuse e c s ≡ then first next b buf
  stops e h = ap (λ x. by next x.answer x.builder x.buffer) h

-- the list of a sheet, by the kind that it is built as
module _ (w : Which) (v : List ℕ) (m : Meaning) (is : m ≡ list w) (b : Builder) (buf : List ℕ) (c : Builder) (s : List ℕ) where
  listed : (x : After (Answer ℕ)) → x ≡ step (builders.build m v) b buf → x ≡ step (builders.build (list w) v) b buf
  listed x h = h ∙ ap (λ m. step (builders.build m v) b buf) is

  pub list_refused : (e : Fault) → record { answer = bad e; builder = c; buffer = s } ≡ step (builders.build m v) b buf → refuse e c s ≡ build w v b buf
  list_refused e h = stops (step (builders.build (list w) v)) _ b buf c s e (listed _ h)

  pub list_built : (p : ℕ) → record { answer = good p; builder = c; buffer = s } ≡ step (builders.build m v) b buf → (x : After (Answer ℕ)) → x ≡ lead w p c s → x ≡ build w v b buf
  list_built p h x k = k ∙ goes_on (step (builders.build (list w) v)) (lead w) b buf c s p (listed _ h)

-- the three lists
module _ (x : Three (List ℕ)) where
  abbrev parts_behind : ℕ → ℕ → Run (Three ℕ)
  parts_behind n c = then (build Parts x.parts) (λ p. tell (record { numbers = n; casts = c; parts = p }))

  abbrev casts_behind : ℕ → Run (Three ℕ)
  casts_behind n = then (build Casts x.casts) (parts_behind n)

  module _ (b : Builder) (buf : List ℕ) (n : ℕ) (c : Builder) (s : List ℕ) (h : tell n c s ≡ build Numbers x.numbers b buf) where
    behind_numbers : casts_behind n c s ≡ build_lists x b buf
    behind_numbers = goes_on (build Numbers x.numbers) casts_behind b buf c s n h

    pub casts_refused : (d : Builder) (t : List ℕ) (e : Fault) → refuse e d t ≡ build Casts x.casts c s → refuse e d t ≡ build_lists x b buf
    casts_refused d t e k = stops (build Casts x.casts) (parts_behind n) c s d t e k ∙ behind_numbers

    module _ (m : ℕ) (d : Builder) (t : List ℕ) (k : tell m d t ≡ build Casts x.casts c s) where
      behind_casts : parts_behind n m d t ≡ build_lists x b buf
      behind_casts = goes_on (build Casts x.casts) (parts_behind n) c s d t m k ∙ behind_numbers

      pub parts_refused : (f : Builder) (u : List ℕ) (e : Fault) → refuse e f u ≡ build Parts x.parts d t → refuse e f u ≡ build_lists x b buf
      parts_refused f u e l = stops (build Parts x.parts) (λ p. tell (record { numbers = n; casts = m; parts = p })) d t f u e l ∙ behind_casts

      pub lists_built : (f : Builder) (u : List ℕ) (p : ℕ) → tell p f u ≡ build Parts x.parts d t → tell (record { numbers = n; casts = m; parts = p }) f u ≡ build_lists x b buf
      lists_built f u p l = goes_on (build Parts x.parts) (λ p. tell (record { numbers = n; casts = m; parts = p })) d t f u p l ∙ behind_casts
