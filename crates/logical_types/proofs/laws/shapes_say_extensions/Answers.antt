use Rattle.logical_types.proofs.ShapeNames.{extensions_say, shapes_are}
use Rattle.logical_types.proofs.laws.shapes_say_extensions.Goals as goal

pub returns : goal.returns
returns c = record { says = extensions_say; whole = shapes_are }
