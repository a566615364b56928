use Rattle.plate_lists.proofs.WrittenLaws.{RowWritten}
use Rattle.plate_lists.proofs.texts.Draft.push_slice.Given as goal

abbrev pub invariant-loop-value : goal.invariant-loop-value
invariant-loop-value g l = RowWritten g.T.Piece.sheet g.met.T.Piece.some l.values l.initial.self l.self l.value-index
