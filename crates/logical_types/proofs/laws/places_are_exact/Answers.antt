use Rattle.logical_types.proofs.DecimalsExact.{number_exact}
use Rattle.logical_types.specs.Places.{fine_scale}
use Rattle.logical_types.proofs.laws.places_are_exact.Goals as goal

pub returns : goal.returns
returns c = λ word place h. number_exact (fine_scale c.args.decimal.scale word) word h.number h.written
