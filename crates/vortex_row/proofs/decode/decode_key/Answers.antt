-- What a column's answer says of the keys that the bytes begin with.
use Rattle.vortex_dtype.specs.TypeOf.{type_of}
use Rattle.vortex_row.proofs.DecodeSteps.{answers-bad, answers-whole}
use Rattle.vortex_row.proofs.decode.decode_key.Goals as goal

pub returns-clause-whole : goal.returns-clause-whole
returns-clause-whole c = answers-whole c.args.options (type_of c.args.dtype.now) c.args.bytes.now c.decode_column.result c.one_value.ensures c.decode_column.ensures

pub returns-clause-bad : goal.returns-clause-bad
returns-clause-bad c = answers-bad c.args.options (type_of c.args.dtype.now) c.args.bytes.now c.decode_column.result c.in_ok-expect_no_variant.ensures.ordered c.decode_column.ensures
