use Rattle.std.proofs.Common.{◌∙◌}
use Rattle.catalogue.specs.Orders.{order_named}
use Rattle.exports.specs.declared.calls.Get.{Get}
use Rattle.exports.specs.Answering.{stepped}
use Rattle.exports.proofs.AnsweringLaws.{answered}
use Rattle.exports.proofs.gachullpi_get.Goals as goal

pub returns : goal.returns
returns c = c.asked.ensures.1 ∙ answered (λ (u : Get). stepped u.0.archive.now u.0.place) (record { 0 = record { archive = c.args.archive; place = c.args.place } }) c.asked.ensures.0 c.asked.new.call c.args.kind.now (order_named c.args.order) c.asked.ensures.2
