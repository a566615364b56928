use Rattle.std.proofs.Common.{refl}
use Rattle.format.proofs.WorkedSamples.{worked}
use Rattle.worked.proofs.worked_samples.Goals as goal

pub returns : goal.returns
returns c = record { facts = worked; count = refl }
