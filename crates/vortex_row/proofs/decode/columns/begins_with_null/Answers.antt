-- The first byte is that of a null, which the type takes.
use Rattle.std.proofs.Common.{◌∙◌}
use Rattle.vortex_dtype.specs.TypeOf.{type_of}
use Rattle.vortex_row.proofs.DecodeSteps.{column-null}
use Rattle.vortex_row.proofs.ValueSteps.{takes-null}
use Rattle.vortex_row.proofs.decode.columns.begins_with_null.Goals as goal

pub returns-then-first-null_byte-clause-null : goal.returns-then-first-null_byte-clause-null
returns-then-first-null_byte-clause-null c = λ test.
    column-null c.args.options (type_of c.args.dtype.now) c.args.bytes.now (takes-null (type_of c.args.dtype.now) c.is_nullable.result c.is_nullable.ensures test) c.in-len1-up.len_at_least
    (c.if-first-null_byte.true ∙ c.null_byte.ensures)
