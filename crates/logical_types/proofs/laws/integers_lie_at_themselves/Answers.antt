use Rattle.logical_types.proofs.PlacesAre.{integer_there}
use Rattle.logical_types.proofs.laws.integers_lie_at_themselves.Goals as goal

pub returns : goal.returns
returns c = integer_there
