-- What is copied out is the sheet. Assumes nothing.
use Rattle.std.proofs.Common.{◌≡◌, ℕ, ◌++◌, Bool, true, false, List, length, take, drop, nat_le, refl, sym, ◌∙◌, ap, arith}
use Rattle.std.proofs.lemmas.List.{take_at}
use Rattle.format.specs.Answers.{Answer, Fault, good, bad, fault}
use Rattle.format.specs.Meaning.{Meaning}
use Rattle.format.specs.Archive.{Copied, pour, copy_out, sheet_at}
use Rattle.format.proofs.AnswerLaws.{good-same}
use Rattle.refusal.specs.Told.{cause_number, fault_of, refused}
use Rattle.refusal.specs.declared.cause.Cause.{Cause}
use Rattle.refusal.specs.declared.cause.Cause.TheVariants.{NoRoom}
use Rattle.refusal.specs.declared.refusal.Refusal.{Refusal}
use Rattle.plate_archive.specs.declared.roots.Which.{Which}
use Rattle.plate_archive.specs.Archives.{on, sound}

-- only 4 is the want of room
no_room : (c : Cause) → cause_number c ≡ 4 → c ≡ NoRoom
no_room NoRoom h = refl
no_room _ h = absurd (omega arith)

-- a sheet poured into an output, by whether it has room
abbrev poured : List ℕ → List ℕ → Bool → Copied
poured s out true = record { answer = good (length s); output = s ++ drop (length s) out }
poured s out false = record { answer = fault 4 0; output = out }

pour_by : (s out : List ℕ) (b : Bool) → nat_le (length s) (length out) ≡ b → pour (good s) out ≡ poured s out b
pour_by s out b e = ap (poured s out) e

-- an output that was filled begins with the sheet
pour-good : (x : Answer (List ℕ)) (out new : List ℕ) (n : ℕ) → record { answer = good n; output = new } ≡ pour x out → x ≡ good (take n new)
pour-good (bad e) out new n h =
    let a : good n ≡ bad e = ap (λ (c : Copied). c.answer) h in
    let z : ◌≡◌ {A = ℕ} 0 1 = cc in absurd (omega arith)
pour-good (good s) out new n h = go (nat_le (length s) (length out)) refl where
  go : (b : Bool) → nat_le (length s) (length out) ≡ b → good s ≡ good (take n new)
  go true e =
      let is = h ∙ pour_by s out true e in
      let k = good-same n (length s) (ap (λ (c : Copied). c.answer) is) in
      let l = ap (λ (c : Copied). c.output) is in
      sym (ap good (ap (λ z. take n z) l ∙ take_at s _ n (sym k)))
  go false e =
      let a = ap (λ (c : Copied). c.answer) (h ∙ pour_by s out false e) in
      let z : ◌≡◌ {A = ℕ} 0 1 = cc in absurd (omega arith)

-- a refusal that is no want of room is that of the sheet
pour-bad : (x : Answer (List ℕ)) (out new : List ℕ) (r : Refusal) → (r.cause ≡ NoRoom → ⊥) → record { answer = refused r; output = new } ≡ pour x out → x ≡ refused r
pour-bad (bad e) out new r k h =
    let a : refused r ≡ bad e = ap (λ (c : Copied). c.answer) h in
    let z : e ≡ fault_of r = cc in ap bad z
pour-bad (good s) out new r k h = go (nat_le (length s) (length out)) refl where
  go : (b : Bool) → nat_le (length s) (length out) ≡ b → good s ≡ refused r
  go true e =
      let a = ap (λ (c : Copied). c.answer) (h ∙ pour_by s out true e) in
      let z : ◌≡◌ {A = ℕ} 0 1 = cc in absurd (omega arith)
  go false e =
      let a = ap (λ (c : Copied). c.answer) (h ∙ pour_by s out false e) in
      let z : fault_of r ≡ record { number = 4; place = 0; depth = 0 } = cc in absurd (k (no_room r.cause (ap (λ (f : Fault). f.number) z)))

-- the same of a value of m at p, whose meaning the code has as b
module _ (b m : Meaning) (means : b ≡ m) (a : List ℕ) (p : ℕ) (out new : List ℕ) where
  pub copied-good : (n : ℕ) → record { answer = good n; output = new } ≡ copy_out b a p out → sheet_at m a p ≡ good (take n new)
  copied-good n h = ap (λ w. sheet_at w a p) (sym means) ∙ pour-good (sheet_at b a p) out new n h

  pub copied-bad : (r : Refusal) → (r.cause ≡ NoRoom → ⊥) → record { answer = refused r; output = new } ≡ copy_out b a p out → sheet_at m a p ≡ refused r
  copied-bad r k h = ap (λ w. sheet_at w a p) (sym means) ∙ pour-bad (sheet_at b a p) out new r k h

-- the part of an output that was filled, and what it says of a list
pub truncated : (n k : ℕ) (new rest items : List ℕ) → items ≡ take n (take k (new ++ rest)) → length new ≡ k → items ≡ take n new
truncated n k new rest items e l = e ∙ ap (take n) (take_at new rest k l)

pub on-good : (w : Which) (x : Answer (List ℕ)) (s t : List ℕ) → x ≡ good t → s ≡ t → sound s ≡ on w x
on-good w x s t h e = ap sound e ∙ sym (ap (on w) h)
