-- The type, made nullable, takes a null.
use Rattle.std.proofs.Common.{subst, sym}
use Rattle.vortex_dtype.specs.TypeOf.{type_of}
use Rattle.vortex_dtype.specs.TypeTree.{IsNullable}
use Rattle.vortex_value.proofs.MakerLaws.{takes_null}
use Rattle.vortex_filter.proofs.MemorySteps.{flat_nullable}
use Rattle.vortex_filter.proofs.literals.null_in.Goals as goal

pub null-requires : goal.null-requires
null-requires c = subst IsNullable (sym c.in-Ok.ensures) (takes_null (type_of c.args.dtype.now))

pub returns-in-Err-clause-refused : goal.returns-in-Err-clause-refused
returns-in-Err-clause-refused c = (c.in-Err.ensures.0, λ flat. c.in-Err.ensures.1 (flat_nullable (type_of c.args.dtype.now) flat))
