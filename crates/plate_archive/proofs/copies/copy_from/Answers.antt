use Rattle.std.proofs.Common.{length, take, drop, sym, ap, ◌∙◌}
use Rattle.format.specs.Orders.{little}
use Rattle.format.specs.Links.{slice}
use Rattle.format.specs.Archive.{sheet_at}
use Rattle.plate_archive.specs.Archives.{on, list}
use Rattle.plate_archive.proofs.CopyLaws.{copied-good, copied-bad, truncated, on-good}
use Rattle.plate_archive.proofs.copies.copy_from.Goals as goal

pub returns-in-Ok : goal.returns-in-Ok
returns-in-Ok g c =
    let is = copied-good (slice (g.R.Item.Kind.meaning c.list_of.result.item) little) (list g.R.Root.which) c.list_of.ensures c.args.archive.now c.args.place c.as_mut_slice.result.now c.copy_out.new.output c.in-Ok.length c.in-Ok.ensures in
    let filled = truncated c.in-Ok.length c.in_ok-output.output.len c.copy_out.new.output (drop (length c.copy_out.new.output) c.in_ok-output.output.items) c.truncate.new.self.items c.truncate.ensures.items (c.copy_out.auto.output ∙ c.as_mut_slice.ensures.len) in
    on-good g.R.Root.which (sheet_at (list g.R.Root.which) c.args.archive.now c.args.place) c.truncate.new.self.items (take c.in-Ok.length c.copy_out.new.output) is filled

pub returns-in_default : goal.returns-in_default
returns-in_default g c =
    let is = copied-bad (slice (g.R.Item.Kind.meaning c.list_of.result.item) little) (list g.R.Root.which) c.list_of.ensures c.args.archive.now c.args.place c.as_mut_slice.result.now c.copy_out.new.output c.in-Err.refusal c.in_default.not-NoRoom c.in-Err.ensures in
    rw c.on.ensures (sym (ap (on g.R.Root.which) is))
