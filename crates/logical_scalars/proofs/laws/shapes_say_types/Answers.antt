use Rattle.logical_scalars.proofs.TypeNames.{types_are, types_say}
use Rattle.logical_scalars.proofs.laws.shapes_say_types.Goals as goal

pub returns : goal.returns
returns c = record { says = types_say c.shapes_say_extensions.ensures.says; whole = types_are c.shapes_say_extensions.ensures.whole }
