-- A row that is scanned item by item: what is left answers for the whole. Assumes nothing.
use Rattle.std.proofs.Common.{◌≡◌, ℕ, suc, ◌+◌, ◌-◌, ◌<◌, ◌≤◌, List, length, ap, ◌∙◌, add-zero, arith}
use Rattle.format.specs.Answers.{Fault, good, bad}
use Rattle.format.specs.Sheets.{at_place}
use Rattle.format.specs.Meaning.{Meaning}
use Rattle.format.specs.Items.{scan_items}
use Rattle.kind.specs.Asked.{Next}
use Rattle.rows.proofs.Values.{scan-more, scan-more-bad}

-- of n items from p on, i are scanned, up to q
pub record ScanLeft (m : Meaning) (n : ℕ) (s : List ℕ) (p i q : ℕ) : Type 0 where
  pub onward : p ≤ q
  pub within : q ≤ length s
  pub whole : at_place (scan_items m n) s p ≡ at_place (scan_items m (n - i)) s q

module _ {m : Meaning} {n : ℕ} {s : List ℕ} {p i q : ℕ} (l : ScanLeft m n s p i q) where
  next : i < n → at_place (scan_items m n) s p ≡ at_place (scan_items m (suc (n - (i + 1)))) s q
  next h = let k : n - i ≡ suc (n - (i + 1)) = omega arith in l.whole ∙ ap (λ z. at_place (scan_items m z) s q) k

  pub scan_left_more : i < n → (e : ℕ) → Next m s q e → q ≤ e → e ≤ length s → ScanLeft m n s p (i + 1) e
  scan_left_more h e f on to = record { onward = let o = l.onward in omega arith; within = to; whole = next h ∙ scan-more m s (n - (i + 1)) q e f }

  pub scan_left_bad : i < n → (f : Fault) → at_place m.scan s q ≡ bad f → at_place (scan_items m n) s p ≡ bad f
  scan_left_bad h f b = next h ∙ scan-more-bad m s (n - (i + 1)) q f b

  pub scan_all : n ≤ i → at_place (scan_items m n) s p ≡ good q
  scan_all h = let k : n - i ≡ 0 = omega arith in l.whole ∙ (ap (λ z. at_place (scan_items m z) s q) k ∙ ap good (add-zero q))
