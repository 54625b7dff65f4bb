-- What the answer for the columns says of the keys of rows that the bytes begin with.
use Rattle.vortex_row.proofs.RowDecodeSteps.{rows-bad, rows-whole}
use Rattle.vortex_row.proofs.decode.decode_row_key.Goals as goal

pub returns-clause-whole : goal.returns-clause-whole
returns-clause-whole c = rows-whole c.args.options.now c.args.dtypes.now c.args.bytes.now c.decode_columns.result c.one_value.ensures c.decode_columns.ensures

pub returns-clause-bad : goal.returns-clause-bad
returns-clause-bad c =
    rows-bad c.args.options.now c.args.dtypes.now c.args.bytes.now c.decode_columns.result c.in_ok-expect_no_variants.ensures.ordered c.decode_columns.ensures
