use Rattle.std.proofs.Common.{◌≡◌, max, sym, ap, ◌∙◌, arith}
use Rattle.std.specs.Int.{is_power_of_two}
use Rattle.format.proofs.AnswerLaws.{unless-false}
use Rattle.builder.proofs.Powers.{one_bit, too_large, other_bits}
use Rattle.builder.proofs.alignment.Alignment.asked.Goals.{then-bytes-gt-LARGEST-via-then-bytes-gt-LARGEST, then-bytes-gt-LARGEST-via-else-bytes-gt-LARGEST+then-not-is_power_of_two}
use Rattle.builder.proofs.alignment.Alignment.asked.Goals as goal

pub returns-then-bytes-gt-LARGEST : goal.returns-then-bytes-gt-LARGEST
returns-then-bytes-gt-LARGEST c =
    let n = c.args.number in
    let e = c.max-bytes.ensures in
    let same : c.max-bytes.result ≡ max 1 n = omega arith in
    rw c.whole.ensures (elim c.then-bytes-gt-LARGEST.branch [
      | then-bytes-gt-LARGEST-via-then-bytes-gt-LARGEST w ↦ let l = w.if-bytes-gt-LARGEST.true in sym (unless-false _ _ _ (too_large n (omega arith)))
      | then-bytes-gt-LARGEST-via-else-bytes-gt-LARGEST+then-not-is_power_of_two w ↦
          sym (unless-false _ _ _ (other_bits n (ap is_power_of_two (sym same) ∙ (sym w.is_power_of_two.ensures ∙ w.if-not-is_power_of_two.true))))
    ])

pub invariant_of-result : goal.invariant_of-result
invariant_of-result c = record { power = one_bit c.max-bytes.result c.if-bytes-gt-LARGEST.false (sym c.if-not-is_power_of_two.ensures) }
