use Rattle.std.proofs.Common.{◌≡◌, ℕ, ◌+◌, List, sym, ap, ◌∙◌, subst}
use Rattle.format.specs.Answers.{good}
use Rattle.format.specs.Orders.{number}
use Rattle.format.specs.Places.{part}
use Rattle.format.specs.Sheets.{marked, at_place, number_read, any}
use Rattle.format.proofs.AnswerLaws.{both-good}
use Rattle.format.proofs.SheetLaws.{number_read-any}
use Rattle.sheet.proofs.parts.number.Goals as goal

-- once the mark is read, the number is the one that its bytes write
behind-mark : (mark s : List ℕ) (p w k e n : ℕ) → k ≡ w → good e ≡ at_place (marked mark k) s p → n ≡ number (part (p + 2) w s) → good n ≡ number_read mark w any s p
behind-mark mark s p w k e n kw h v =
    let there : at_place (marked mark w) s p ≡ good e = sym (subst (λ z. good e ≡ at_place (marked mark z) s p) kw h) in
    ap good v ∙ sym (number_read-any mark w s p ∙ both-good (at_place (marked mark w) s p) e (λ _. good (number (part (p + 2) w s))) there)

pub returns-clause-told : goal.returns-clause-told
returns-clause-told g c = behind-mark c.args.mark.now c.args.sheet.now c.args.at g.P.Primitive.SIZE c.SIZE.result c.in_ok-marked.field-0 (g.P.Primitive.value c.take_back.result) c.SIZE.ensures c.in_ok-marked.ensures.told c.take_back.ensures.value
