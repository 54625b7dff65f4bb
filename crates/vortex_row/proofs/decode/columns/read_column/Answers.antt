-- What was read of the bytes, inverted or not, is what the column has, and as many are left.
use Rattle.std.proofs.Common.{length, rules}
use Rattle.vortex_dtype.specs.TypeOf.{type_of}
use Rattle.vortex_row.specs.Reading.{left}
use Rattle.vortex_row.proofs.DecodeSteps.{column-refused, column-value}
use Rattle.vortex_row.proofs.decode.columns.read_column.Goals as goal
use Rattle.vortex_row.proofs.ByteLaws.{inverted-length}

pub returns-in-Ok : goal.returns-in-Ok
returns-in-Ok c =
    column-value c.args.options (type_of c.args.dtype.now) _ c.args.bytes.now (left c.read_into-answer.new.reader) c.saturating_sub-taken.result (length c.read_into-answer.new.reader.rest.now) (λ k. (c.type_inv.bytes k).fits) c.in-Ok.ensures
    (inverted-length c.read_into-answer.new.reader.invert c.read_into-answer.new.reader.rest.now) c.saturating_sub-taken.ensures

pub returns-in-Err-Bad : goal.returns-in-Err-Bad
returns-in-Err-Bad c =
    let refused = rw c.in-Err-Bad.is at c.read_into-answer.ensures in
    column-refused c.args.options (type_of c.args.dtype.now) c.args.bytes.now (left c.read_into-answer.new.reader) (length c.read_into-answer.new.reader.rest.now) c.saturating_sub-taken.result
    (λ k. (c.type_inv.bytes k).fits) (c.begins_with_null.ensures.other c.if-begins_with_null.false) (refused (search rules))
    (inverted-length c.read_into-answer.new.reader.invert c.read_into-answer.new.reader.rest.now) c.saturating_sub-taken.ensures
