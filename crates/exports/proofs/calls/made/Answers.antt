use Rattle.std.proofs.Common.{◌≡◌, Some, Err, sym, ap, ◌∙◌, subst, rules}
use Rattle.std.proofs.lemmas.Result.{err_from_is_err_and}
use Rattle.naming.specs.Senses.{sense_of}
use Rattle.catalogue.specs.Orders.{order_of, order_named}
use Rattle.exports.specs.Making.{MadeIn}
use Rattle.exports.proofs.AnsweringLaws.{made_ok, made_err}
use Rattle.exports.proofs.calls.made.Goals as goal

pub returns-in_err-with_kind : goal.returns-in_err-with_kind
returns-in_err-with_kind g c =
    let order : order_named c.args.name.order ≡ Some c.in_ok-order.order = search rules in
    let trouble = err_from_is_err_and _ c.from_residual-in_err-with_kind.ensures.1 in
    subst (λ o. MadeIn g.U.Use.tells c.args.call.now c.from_residual-in_err-with_kind.result c.with_kind.new.purpose c.args.name.kind.now o) (sym order)
    (made_err g.U.Use.tells c.args.call.now c.from_residual-in_err-with_kind.result c.with_kind.new.purpose c.in_err-with_kind.field-0.0
    (sense_of (order_of c.in_ok-order.order) c.args.name.kind.now) c.in_err-with_kind.ensures (trouble.1 ∙ ap Err trouble.2))

pub returns : goal.returns
returns g c =
    let order : order_named c.args.name.order ≡ Some c.in_ok-order.order = search rules in
    subst (λ o. MadeIn g.U.Use.tells c.args.call.now c.in_ok-with_kind.field-0 c.with_kind.new.purpose c.args.name.kind.now o) (sym order)
    (made_ok g.U.Use.tells c.args.call.now c.in_ok-with_kind.field-0 c.with_kind.new.purpose (sense_of (order_of c.in_ok-order.order) c.args.name.kind.now) c.in_ok-with_kind.ensures)
