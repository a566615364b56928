use Rattle.std.proofs.lemmas.Result.{err_from_is_err_and}
use Rattle.format.specs.Orders.{little}
use Rattle.format.specs.Links.{slice}
use Rattle.refusal.specs.Told.{fault_of}
use Rattle.builder.specs.Model.{model}
use Rattle.plate_archive.proofs.AssemblyLaws.{list_refused, list_built}
use Rattle.plate_archive.proofs.assembly.build.Goals as goal

pub returns-in_err-place : goal.returns-in_err-place
returns-in_err-place g c =
    let p = err_from_is_err_and c.from_residual.result c.from_residual.ensures.1 in
    rw (p.1, p.2)
    (list_refused g.R.Root.which c.args.sheet.now (slice (g.R.Item.Kind.meaning c.list_of.result.item) little) c.list_of.ensures (model c.args.builder.now) c.args.buffer.now
    (model c.build.new.self) c.build.new.buffer (fault_of c.in_err-place.field-0.0) c.in_err-place.ensures)

pub returns : goal.returns
returns g c =
    list_built g.R.Root.which c.args.sheet.now (slice (g.R.Item.Kind.meaning c.list_of.result.item) little) c.list_of.ensures (model c.args.builder.now) c.args.buffer.now
    (model c.build.new.self) c.build.new.buffer c.in_ok-place.place c.in_ok-place.ensures _ (rw c.which.ensures at c.lead.ensures)
