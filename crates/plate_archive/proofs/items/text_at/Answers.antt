use Rattle.format.specs.Orders.{little}
use Rattle.kind.specs.Finds.{part_of}
use Rattle.plate_archive.proofs.TextLaws.{found_text-utf8, ok_unless}
use Rattle.plate_archive.proofs.items.text_at.Goals as goal

pub unwrap-requires : goal.unwrap-requires
unwrap-requires c =
    let text = found_text-utf8 little c.args.archive.now c.args.place (part_of c.in-Text.part) (rw c.in-Text.is at c.in_ok-part.ensures) in
    ok_unless c.from_utf8.result _ _ (λ e h. h.0 text) c.from_utf8.ensures.cases
