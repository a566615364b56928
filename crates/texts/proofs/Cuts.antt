-- The steps that the cut of a text is found by. Assumes nothing.
use Rattle.std.proofs.Common.{◌≡◌, ℕ, zero, suc, ◌-◌, ◌<◌, ◌≤◌, Bool, true, false, not, eqb, leb, List, length, get_or, take, sym, refl, ap, ◌∙◌, arith}
use Rattle.std.proofs.lemmas.List.{length-take-le}
use Rattle.std.proofs.lemmas.Bool.{lt-leb, cond-true, cond-false}
use Rattle.format.specs.Recogniser.{among}
use Rattle.format.specs.Texts.{boundary, cut}
use Rattle.format.proofs.CutLaws.{cut-length}

-- within a text, a boundary is told by the byte
boundary_is : (bs : List ℕ) (n : ℕ) (b : Bool) → n < length bs → among 0x80 0xbf (get_or bs n 0) ≡ b → boundary bs n ≡ not b
boundary_is bs n b h t = cond-false (leb (length bs) n) (eqb n (length bs)) _ (lt-leb (length bs) n h) ∙ ap not t

-- no cut is before a byte that goes on with a character
pub cut_on : (bs : List ℕ) (n : ℕ) → 0 < n → n < length bs → among 0x80 0xbf (get_or bs n 0) ≡ true → cut (n - 1) bs ≡ cut n bs
cut_on bs zero z h t = absurd (omega arith)
cut_on bs (suc n) z h t =
    let k : suc n - 1 ≡ n = omega arith in
    ap (λ m. cut m bs) k ∙ sym (cond-false (boundary bs (suc n)) (take (suc n) bs) (cut n bs) (boundary_is bs (suc n) true h t))

-- at any other place the cut ends there
pub cut-here : (bs : List ℕ) (n : ℕ) → n < length bs → among 0x80 0xbf (get_or bs n 0) ≡ false → take n bs ≡ cut n bs
cut-here bs zero h t = refl
cut-here bs (suc n) h t = sym (cond-true (boundary bs (suc n)) (take (suc n) bs) (cut n bs) (boundary_is bs (suc n) false h t))

-- a place before which the cut is taken is as far as the cut goes
pub record Cut (bs : List ℕ) (c r : ℕ) : Type 0 where
  pub long : r ≡ length (cut c bs)
  pub front : take r bs ≡ cut c bs
  pub within : (r ≤ length bs) × (r ≤ c)

pub cut_at : (bs : List ℕ) (c r : ℕ) → r ≤ length bs → take r bs ≡ cut c bs → Cut bs c r
cut_at bs c r h e =
    let l : r ≡ length (cut c bs) = sym (length-take-le r bs h) ∙ ap length e in
    let k = cut-length c bs in
    record { long = l; front = e; within = (h, omega arith) }
