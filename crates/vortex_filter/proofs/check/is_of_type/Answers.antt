use Rattle.vortex_dtype.specs.TypeOf.{type_of}
use Rattle.vortex_value.specs.Values.Scalars.{scalar_type}
use Rattle.vortex_filter.proofs.CheckSteps.{same_is}
use Rattle.vortex_filter.proofs.check.is_of_type.Goals as goal

pub returns : goal.returns
returns c = same_is c.eq_ignore_nullability.result (type_of c.args.dtype.now) (scalar_type c.args.scalar.now) c.eq_ignore_nullability.ensures
