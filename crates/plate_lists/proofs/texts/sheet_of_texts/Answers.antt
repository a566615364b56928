use Rattle.std.proofs.Common.{vec_items, ap}
use Rattle.format.specs.Sheets.{text_sheet, text_mark}
use Rattle.plate_lists.specs.Lists.{limited}
use Rattle.plate_lists.proofs.ToldLaws.{tells_same}
use Rattle.plate_lists.proofs.WrittenLaws.{slice_read}
use Rattle.plate_lists.proofs.texts.sheet_of_texts.Goals as goal

pub returns : goal.returns
returns c = tells_same vec_items c.sheet_of_slice.result _ _ (ap limited (slice_read (text_sheet text_mark) (λ text. text.now) c.args.texts.now)) c.sheet_of_slice.ensures
