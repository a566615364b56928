use Rattle.builder.proofs.Facts.{kind_power}
use Rattle.builder.proofs.alignment.Alignment.of.Goals as goal

pub invariant_of-result : goal.invariant_of-result
invariant_of-result g c = record { power = kind_power _ (g.met.K.Kind.lawful c.args.kind.now) c.align.ensures }
