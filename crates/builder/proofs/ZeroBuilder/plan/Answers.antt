use Rattle.std.proofs.Common.{◌+◌, ◌≤◌, leb, add-zero, sym, ap, ◌∙◌, subst}
use Rattle.std.proofs.lemmas.Result.{err_from_is_err_and}
use Rattle.format.specs.Places.{stop, up}
use Rattle.format.specs.Answers.{good, fault, unless}
use Rattle.format.proofs.BuildLaws.{build_full, build-fits}
use Rattle.format.proofs.ByteLists.{typed_bytes}
use Rattle.rows.proofs.Values.{value-belongs}
use Rattle.builder.specs.Alignments.{Power}
use Rattle.builder.specs.Model.{model}
use Rattle.builder.proofs.Facts.{power}
use Rattle.builder.proofs.ZeroBuilder.plan.Goals as goal

pub returns-in_err-reach : goal.returns-in_err-reach
returns-in_err-reach g c =
    let p = err_from_is_err_and c.from_residual-in_err-reach.result c.from_residual-in_err-reach.ensures.1 in
    let end = c.layout-end.result.0 in
    let full = ap (λ z. unless (leb z c.args.self.now.room) (fault 4 0) (good end)) (sym (add-zero end)) ∙ sym c.in_err-reach.ensures.told in
    rw (p.1, p.2) (sym (build_full (model c.args.self.now) (g.K.Kind.meaning c.args.kind.now) c.args.sheet.now c.in_ok-whole.field-0 (sym c.in_ok-whole.ensures.told) c.next-place.result c.min-tail.result c.layout-end.result.0 c.layout-end.result.1
    (c.next-place.ensures.place ∙ ap (up c.args.self.now.used) c.of.ensures) (c.min-tail.ensures ∙ ap (λ z. stop (c.next-place.result + z)) c.size.ensures) c.layout-end.ensures.foretold _ full))

pub invariant_of-larger : goal.invariant_of-larger
invariant_of-larger g c =
    let k = (g.met.K.Kind.lawful c.args.kind.now).keeps in
    let found = value-belongs (g.K.Kind.meaning c.args.kind.now) k c.args.sheet.now 0 (typed_bytes c.args.sheet.now c.type_inv.sheet) c.in_ok-whole.field-0 c.in_ok-whole.ensures.found in
    record { power = subst Power (c.layout-end.ensures.foretold 0).1 (power _ (k.widest_power _ 0 c.min-tail.result found).0) }

pub returns : goal.returns
returns g c =
    sym (build-fits (model c.args.self.now) (g.K.Kind.meaning c.args.kind.now) c.args.sheet.now c.in_ok-whole.field-0 (sym c.in_ok-whole.ensures.told) c.next-place.result c.min-tail.result c.layout-end.result.0 c.layout-end.result.1
    (c.next-place.ensures.place ∙ ap (up c.args.self.now.used) c.of.ensures) (c.min-tail.ensures ∙ ap (λ z. stop (c.next-place.result + z)) c.size.ensures) c.layout-end.ensures.foretold c.larger-align.result.bytes (subst (λ z. z ≤ c.args.self.now.room) (add-zero c.layout-end.result.0) c.in_ok-reach.ensures.within.1) c.larger-align.ensures)
