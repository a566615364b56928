use Rattle.std.proofs.Common.{ap, ◌∙◌}
use Rattle.plate_lists.proofs.PieceLaws.{left_of}
use Rattle.plate_lists.proofs.split.unended.Goals as goal

pub returns : goal.returns
returns c = ap (λ x. x.now) c.unwrap_or.ensures ∙ left_of c.args.separator c.strip_suffix.result c.args.piece c.strip_suffix.ensures.cases
