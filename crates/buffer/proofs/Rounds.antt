-- What rounding up is known by, under a name that the code can cite. Assumes nothing.
use Rattle.format.proofs.RoundLaws.{up-least}

pub ruleset nearest = (up-least)
