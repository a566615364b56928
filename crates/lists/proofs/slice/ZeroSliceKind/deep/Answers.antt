use Rattle.std.proofs.Common.{◌++◌, ap, ◌∙◌}
use Rattle.format.specs.Orders.{low_first}
use Rattle.format.specs.Answers.{both}
use Rattle.format.specs.Sheets.{slice_mark}
use Rattle.format.specs.Items.{row}
use Rattle.format.specs.Links.{Span, held}
use Rattle.kind.specs.Asked.{length_read}
use Rattle.holding.proofs.Through.{behind-deep}
use Rattle.lists.proofs.SliceCalls.{front_long}
use Rattle.lists.proofs.slice.ZeroSliceKind.deep.Goals as goal

pub returns : goal.returns
returns g c =
    let n = c.in_ok-place.field-0.count in
    behind-deep (slice_mark ++ low_first 4 n) 6 (front_long n) (row (g.K.Kind.meaning c.args.self.now.item) n) _ c.row.ensures c.args.archive.now c.in_ok-place.field-0.place _ _ c.behind_front.ensures c.deep.ensures ∙
    ap (λ x. length_read (both x (λ (s : Span). held (slice_mark ++ low_first 4 s.count) (row (g.K.Kind.meaning c.args.self.now.item) s.count) c.args.archive.now s.place))) c.in_ok-place.ensures
