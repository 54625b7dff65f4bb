use Rattle.std.proofs.Common.{inl}
use Rattle.vortex_dtype.specs.TypeOf.{type_of}
use Rattle.vortex_filter.proofs.CoerceMemorySteps.{compared_asks}
use Rattle.vortex_filter.proofs.CoerceSteps.{comparison_stands, comparison_stops}
use Rattle.vortex_filter.proofs.coerce.comparison_in.Goals as goal

pub returns-in-Ok-clause-made : goal.returns-in-Ok-clause-made
returns-in-Ok-clause-made c =
    comparison_stands (type_of c.args.dtype.now) c.args.column c.args.operator c.args.literal.now c.in-Ok.position c.comparison_of.result c.in-Ok.ensures.made
    (c.comparison_of.ensures.made, c.comparison_of.ensures.literals, c.comparison_of.ensures.refused)

pub returns-in-Err-clause-made : goal.returns-in-Err-clause-made
returns-in-Err-clause-made c = comparison_stops (type_of c.args.dtype.now) c.args.column c.args.operator c.args.literal.now c.in-Err.cause c.in-Err.ensures.made

pub returns-in-Ok-clause-asked : goal.returns-in-Ok-clause-asked
returns-in-Ok-clause-asked c = compared_asks (type_of c.args.dtype.now) c.args.literal.now c.comparison_of.result c.in-Ok.ensures.made.1

pub returns-in-Err-clause-asked : goal.returns-in-Err-clause-asked
returns-in-Err-clause-asked c = λ is. inl (c.in-Err.ensures.asked is)
