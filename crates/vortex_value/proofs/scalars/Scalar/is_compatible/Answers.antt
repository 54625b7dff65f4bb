-- A check passes exactly the valid values, whether it keeps the path or not.
use Rattle.std.proofs.Common.{None}
use Rattle.vortex_dtype.specs.TypeOf.{type_of}
use Rattle.vortex_value.specs.Values.RawOf.{lent_raw}
use Rattle.vortex_value.proofs.ValidityLaws.{Checks-valid}
use Rattle.vortex_value.proofs.scalars.Scalar.is_compatible.Goals as goal

pub returns : goal.returns
returns c = Checks-valid None c.check.result c.check.new.trace (type_of c.args.dtype.now) (lent_raw c.args.value) (rw c.new.ensures at c.check.ensures)
