use Rattle.std.proofs.Common.{vec_items, ap}
use Rattle.plate_lists.specs.Lists.{texts_sheet, limited}
use Rattle.plate_lists.specs.Told.{held}
use Rattle.plate_lists.proofs.ToldLaws.{tells_same}
use Rattle.plate_lists.proofs.WrittenLaws.{slice_read}
use Rattle.plate_lists.proofs.texts.sheet_of_lists.Goals as goal

pub returns : goal.returns
returns c = tells_same vec_items c.sheet_of_slice.result _ _ (ap limited (slice_read texts_sheet (λ list. held (vec_items list)) c.args.lists.now)) c.sheet_of_slice.ensures
