use Rattle.plate_lists.proofs.ToldLaws.{tells_error, tells_on}
use Rattle.plate_lists.proofs.WrittenLaws.{slice_over}
use Rattle.plate_lists.proofs.texts.Draft.push_slice.Goals as goal

pub returns-in_err-push_count : goal.returns-in_err-push_count
returns-in_err-push_count g c =
    tells_error _ _ _ c.in_err-push_count.field-0.0 c.from_residual.ensures.1 (tells_on c.in_err-push_count.field-0.0 _ _ (slice_over g.T.Piece.sheet g.met.T.Piece.some c.args.values.now c.args.self.now) c.in_err-push_count.ensures)
