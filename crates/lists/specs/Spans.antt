-- What the place and the count of a slice's items in the code say. Assumes nothing.
use Rattle.format.specs.Links as links
use Rattle.lists.specs.declared.slice.Span.{Span}

abbrev pub span_of : Span → links.Span
span_of x = record { place = x.place; count = x.count }
