use Rattle.std.proofs.Common.{ap, ◌∙◌, rules, tests}
use Rattle.std.specs.Slice.Iter.{split_inclusive_rest, split_inclusive_callee}
use Rattle.std.proofs.lemmas.Iterator.Consumers.{map_from_collect}
use Rattle.plate_lists.proofs.PieceLaws.{yields_pieces}
use Rattle.plate_lists.proofs.CutLaws.{are_pieces}
use Rattle.plate_lists.proofs.split.pieces.Goals as goal

pub returns : goal.returns
returns c = record {
  made = map_from_collect _ c.collect.ensures.ran (yields_pieces c.args.separator _ _ c.args.bytes.now (ap split_inclusive_rest c.map.ensures.source ∙ c.split_inclusive.ensures.rest) (ap split_inclusive_callee c.map.ensures.source ∙ c.split_inclusive.ensures.closure) c.map.ensures.closure (λ x b q k. search (rules, tests)) (λ x r q k. search (rules, tests)));
  cut = are_pieces c.args.separator c.args.bytes.now;
}
