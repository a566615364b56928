use Rattle.format.proofs.LifeLaws.{lives_well}
use Rattle.builder.specs.Model.{model}
use Rattle.builder.proofs.ZeroBuilder.finish.Goals as goal

pub returns-clause-life : goal.returns-clause-life
returns-clause-life c = lives_well (model c.args.self)
