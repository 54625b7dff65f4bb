use Rattle.std.proofs.Common.{inl, inr}
use Rattle.vortex_dtype.specs.TypeOf.{type_of}
use Rattle.vortex_filter.proofs.CoerceMemorySteps.{ranged_asks}
use Rattle.vortex_filter.proofs.CoerceSteps.{lower_stops, range_stands, upper_stops}
use Rattle.vortex_filter.proofs.coerce.range_in.Goals as goal

pub returns-in-Ok-position_in-clause-made : goal.returns-in-Ok-position_in-clause-made
returns-in-Ok-position_in-clause-made c =
    range_stands (type_of c.args.dtype.now) c.args.column c.args.lower.now c.args.upper.now c.in-Ok.from c.in-Ok-position_in.to c.range_of.result c.in-Ok.ensures.made c.in-Ok-position_in.ensures.made
    (c.range_of.ensures.made, c.range_of.ensures.literals, c.range_of.ensures.refused)

pub returns-in-Err-position_in-clause-made : goal.returns-in-Err-position_in-clause-made
returns-in-Err-position_in-clause-made c = upper_stops (type_of c.args.dtype.now) c.args.column c.args.lower.now c.args.upper.now c.in-Err-position_in.cause c.in-Err-position_in.ensures.made

pub returns-in-Err-clause-made : goal.returns-in-Err-clause-made
returns-in-Err-clause-made c = lower_stops (type_of c.args.dtype.now) c.args.column c.args.lower.now c.args.upper.now c.in-Err.cause c.in-Err.ensures.made

pub returns-in-Ok-position_in-clause-asked : goal.returns-in-Ok-position_in-clause-asked
returns-in-Ok-position_in-clause-asked c = ranged_asks (type_of c.args.dtype.now) c.args.lower.now c.args.upper.now c.range_of.result c.in-Ok.ensures.made.1 c.in-Ok-position_in.ensures.made.1

pub returns-in-Err-position_in-clause-asked : goal.returns-in-Err-position_in-clause-asked
returns-in-Err-position_in-clause-asked c = λ is. inr (c.in-Ok.ensures.made.1, inl (c.in-Err-position_in.ensures.asked is))

pub returns-in-Err-clause-asked : goal.returns-in-Err-clause-asked
returns-in-Err-clause-asked c = λ is. inl (c.in-Err.ensures.asked is)
