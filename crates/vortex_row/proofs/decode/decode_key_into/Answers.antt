-- What a column's answer says of the keys that the bytes begin with.
use Rattle.vortex_dtype.specs.TypeOf.{type_of}
use Rattle.vortex_row.proofs.DecodeSteps.{into-bad, into-whole}
use Rattle.vortex_row.proofs.decode.decode_key_into.Goals as goal

pub returns-clause-whole : goal.returns-clause-whole
returns-clause-whole c =
    into-whole c.args.options (type_of c.args.dtype.now) c.args.bytes.now c.decode_column_into.new.scalar c.decode_column_into.result c.one_value.ensures c.decode_column_into.ensures

pub returns-clause-bad : goal.returns-clause-bad
returns-clause-bad c =
    into-bad c.args.options (type_of c.args.dtype.now) c.args.bytes.now c.decode_column_into.new.scalar c.decode_column_into.result c.in_ok-expect_no_variant.ensures.ordered c.decode_column_into.ensures
