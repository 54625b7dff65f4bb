-- The zero that is given is zero.
use Rattle.vortex_dtype.specs.TypeOf.{type_of}
use Rattle.law_callers.proofs.GivenZeros.{given_zero}
use Rattle.law_callers.proofs.fillings.zero_of.Goals as goal

pub returns : goal.returns
returns c = given_zero c.zero_is_zero.ensures (type_of c.args.dtype.now) c.zero_value.result c.zero_value.ensures.one
