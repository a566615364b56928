-- What a place and a count in the code say. Assumes nothing.
pub use Rattle.lists.specs.Spans.{span_of}
