use Rattle.vortex_dtype.specs.TypeOf.{type_of}
use Rattle.vortex_filter.proofs.CoerceSteps.{cast_reinterprets}
use Rattle.vortex_filter.proofs.coerce.cast_or_refuse.Goals as goal

pub returns-then-reinterprets-clause-made : goal.returns-then-reinterprets-clause-made
returns-then-reinterprets-clause-made c =
    cast_reinterprets (type_of c.args.dtype.now) c.args.column c.args.literal.now c.reinterprets.result c.requires.other c.requires.has c.reinterprets.ensures c.if-reinterprets.true
