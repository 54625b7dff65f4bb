use Rattle.std.proofs.lemmas.Bool.Decides.{same_from_decides}
use Rattle.vortex_dtype.specs.TypeOf.{type_of}
use Rattle.vortex_value.specs.Values.RawOf.{value_tree}
use Rattle.vortex_value.proofs.CastCode.{accepts-Decides}
use Rattle.vortex_value.proofs.cast.rules.accepts.Goals as goal

pub returns : goal.returns
returns c = same_from_decides _ _ c.is_compatible.ensures (accepts-Decides (type_of c.args.dtype.now) (value_tree c.args.value.now))
