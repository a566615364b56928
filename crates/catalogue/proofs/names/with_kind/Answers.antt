use Rattle.std.proofs.Common.{sym, subst}
use Rattle.naming.specs.Senses.{sense_of}
use Rattle.catalogue.specs.Orders.{order_of}
use Rattle.catalogue.specs.Used.{Used}
use Rattle.catalogue.proofs.names.with_kind.Goals as goal

pub returns-in-Little : goal.returns-in-Little
returns-in-Little g c = subst (λ o. Used g.U.Use.tells (sense_of (order_of o) c.args.name.now) c.args.purpose.now c.run.result c.run.new.purpose) (sym c.in-Little.is) c.run.ensures

pub returns-in-Big : goal.returns-in-Big
returns-in-Big g c = subst (λ o. Used g.U.Use.tells (sense_of (order_of o) c.args.name.now) c.args.purpose.now c.run-in-Big.result c.run-in-Big.new.purpose) (sym c.in-Big.is) c.run-in-Big.ensures
