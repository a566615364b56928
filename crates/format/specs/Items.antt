-- Items side by side. Assumes nothing.
use Rattle.std.specs.Prelude.{ℕ, zero, suc, ◌+◌, ◌*◌, max, List, [], ◌++◌, take, drop}
use Rattle.format.specs.Places.{stop}
use Rattle.format.specs.Answers.{Answer, good, bad, both, shifted}
use Rattle.format.specs.Meaning.{Meaning, Laid}

-- the value that a scan found at the front of a sheet, and what is behind it
abbrev pub first_of : Answer ℕ → List ℕ → List ℕ
first_of (good e) v = take e v
first_of (bad f) v = []

abbrev pub rest_of : Answer ℕ → List ℕ → List ℕ
rest_of (good e) v = drop e v
rest_of (bad f) v = []

-- two values filled in side by side, the second's tail behind the first's
abbrev pub beside : Laid → Laid → Laid
beside x y = record { head = x.head ++ y.head; tail = x.tail ++ y.tail; end = y.end; widest = max x.widest y.widest }

module _ (m : Meaning) where
  -- where n values in a row end
  abbrev pub scan_items : ℕ → List ℕ → Answer ℕ
  scan_items zero v = good 0
  scan_items (suc n) v = both (m.scan v) (λ e. shifted e (both (scan_items n (drop e v)) (λ r. good (e + r))))

  abbrev pub kept_items : ℕ → List ℕ → List ℕ
  kept_items zero v = []
  kept_items (suc n) v = m.kept (first_of (m.scan v) v) ++ kept_items n (rest_of (m.scan v) v)

  -- heads from h on, tails from t on
  abbrev pub lay_items : ℕ → List ℕ → ℕ → ℕ → Laid
  lay_items zero v h t = record { head = []; tail = []; end = t; widest = m.align }
  lay_items (suc n) v h t =
      let x = m.lay (first_of (m.scan v) v) h t in
      beside x (lay_items n (rest_of (m.scan v) v) (h + m.size) x.end)

  abbrev pub shallow_items : ℕ → List ℕ → ℕ → Answer ℕ
  shallow_items zero a p = good p
  shallow_items (suc n) a p = both (m.shallow a p) (λ _. shallow_items n a (p + m.size))

  abbrev pub read_items : ℕ → List ℕ → ℕ → Answer (List ℕ)
  read_items zero a p = good []
  read_items (suc n) a p = both (m.reading a p) (λ s. both (read_items n a (p + m.size)) (λ r. good (s ++ r)))

-- n values of m in a row, without a mark
abbrev pub row : Meaning → ℕ → Meaning
row m n = record {
  size = stop (n * m.size);
  align = m.align;
  scan = scan_items m n;
  kept = kept_items m n;
  lay = lay_items m n;
  shallow = shallow_items m n;
  reading = read_items m n;
}
