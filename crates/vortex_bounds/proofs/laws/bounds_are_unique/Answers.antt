use Rattle.vortex_bounds.proofs.BoundLaws.{bounds_are_unique}
use Rattle.vortex_bounds.proofs.laws.bounds_are_unique.Goals as goal

pub returns : goal.returns
returns c = bounds_are_unique
