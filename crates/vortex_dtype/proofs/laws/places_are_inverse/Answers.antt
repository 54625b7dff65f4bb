use Rattle.vortex_dtype.proofs.PlaceLaws.{places_are_inverse}
use Rattle.vortex_dtype.proofs.laws.places_are_inverse.Goals as goal

pub returns : goal.returns
returns c = places_are_inverse
