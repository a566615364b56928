use Rattle.std.proofs.Common.{◌++◌, ap, ◌∙◌}
use Rattle.format.specs.Sheets.{text_sheet, text_mark}
use Rattle.plate_lists.specs.Lists.{texts_sheet, limited}
use Rattle.plate_lists.specs.Told.{held}
use Rattle.plate_lists.proofs.ToldLaws.{tells_same}
use Rattle.plate_lists.proofs.WrittenLaws.{slice_read}
use Rattle.plate_lists.proofs.texts.VecRefSliceU8Piece.push_to.Goals as goal

pub returns : goal.returns
returns c =
    let sheet = slice_read (text_sheet text_mark) (λ text. text.now) c.as_slice.result.now ∙ ap (λ z. texts_sheet (held z)) c.as_slice.ensures.value in
    tells_same _ c.push_slice.result _ _ (ap (λ bs. limited (c.args.draft.now ++ bs)) sheet) c.push_slice.ensures
