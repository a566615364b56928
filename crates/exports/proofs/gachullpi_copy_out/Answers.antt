use Rattle.std.proofs.Common.{rules}
use Rattle.catalogue.specs.Orders.{order_named}
use Rattle.exports.proofs.AnsweringLaws.{copied_end}
use Rattle.exports.proofs.gachullpi_copy_out.Goals as goal

pub returns : goal.returns
returns c = copied_end _ c.asked.ensures.0 c.asked.new.call _ (search rules) c.asked.result c.asked.ensures.1 c.args.kind.now (order_named c.args.order) c.asked.ensures.2
