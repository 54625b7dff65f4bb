use Rattle.std.proofs.Common.{inr}
use Rattle.vortex_dtype.specs.TypeOf.{type_of}
use Rattle.vortex_filter.proofs.CoerceSteps.{cast_refused}
use Rattle.vortex_filter.proofs.coerce.cast_valid.Goals as goal

pub returns-in-Err-cast-clause-made : goal.returns-in-Err-cast-clause-made
returns-in-Err-cast-clause-made c =
    cast_refused (type_of c.args.dtype.now) c.args.column c.args.literal.now (type_of c.in-Ok.target) c.in-Err-cast.cause c.refusal.result c.in-Ok.ensures c.requires.other c.requires.has c.in-Err-cast.ensures c.refusal.ensures

pub returns-in-Err-cast-clause-asked : goal.returns-in-Err-cast-clause-asked
returns-in-Err-cast-clause-asked c = λ is. inr (c.requires.valid, c.requires.has, c.requires.keeps)

pub returns-in-Err-clause-asked : goal.returns-in-Err-clause-asked
returns-in-Err-clause-asked c = λ is. inr (c.requires.valid, c.requires.has, c.requires.keeps)
