use Rattle.std.proofs.Common.{rules}
use Rattle.catalogue.specs.Orders.{order_named}
use Rattle.exports.proofs.EventLaws.{waited, by_model}
use Rattle.exports.proofs.event.KindEvent.make_named.Goals as goal

pub returns : goal.returns
returns c = waited _ c.made.result c.made.new.call _ _ (search (rules, by_model)) (search rules) c.args.name.kind.now (order_named c.args.name.order) c.made.ensures
