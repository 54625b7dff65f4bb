-- The byte of a null, where the type takes one.
use Rattle.vortex_dtype.specs.TypeOf.{type_of}
use Rattle.vortex_row.specs.Reading.{left}
use Rattle.vortex_row.proofs.ValueSteps.{null-taken}
use Rattle.vortex_row.proofs.decode.values.takes_null.Goals as goal

pub returns-then-is_nullable-clause-taken : goal.returns-then-is_nullable-clause-taken
returns-then-is_nullable-clause-taken c = null-taken (type_of c.args.dtype.now) (left c.args.reader.now) (left c.takes.new.self) c.is_nullable.result c.takes.result c.is_nullable.ensures c.if-is_nullable.true c.takes.ensures.taken
