use Rattle.std.proofs.Common.{◌∙◌}
use Rattle.catalogue.specs.Orders.{order_named}
use Rattle.exports.specs.declared.calls.Scan.{Scan}
use Rattle.exports.specs.Answering.{scanned}
use Rattle.exports.proofs.AnsweringLaws.{answered}
use Rattle.exports.proofs.gachullpi_scan.Goals as goal

pub returns : goal.returns
returns c = c.asked.ensures.1 ∙ answered (λ (u : Scan). scanned u.sheet.now) (record { sheet = c.args.sheet }) c.asked.ensures.0 c.asked.new.call c.args.kind.now (order_named 108) c.asked.ensures.2
