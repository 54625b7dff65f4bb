-- The row, and why there is none.
use Rattle.std.proofs.lemmas.Result.{err_from_is_err_and}
use Rattle.record_rows.proofs.Reading.{is_row, not_empty, refused_row}
use Rattle.record_rows.proofs.rows.read_cells.Goals as goal

pub returns-in_err-refused-clause-refused : goal.returns-in_err-refused-clause-refused
returns-in_err-refused-clause-refused c =
    let p = err_from_is_err_and c.from_residual.result c.from_residual.ensures.1 in
    rw (p.1, p.2) (refused_row c.args.schema.now.delimiter.byte c.args.schema.now.reading c.args.schema.now.columns.items c.args.line.now c.row_start-start.result.now c.in_err-refused.field-0.0
    (c.row_start-start.ensures.row (not_empty c.row_start-start.result.now c.is_empty.result c.is_empty.ensures c.if-is_empty.false) c.args.schema.now.delimiter.byte) c.in_err-refused.ensures.refused)

pub returns-clause-row : goal.returns-clause-row
returns-clause-row c =
    is_row c.args.wanted.now c.args.schema.now.delimiter.byte c.args.schema.now.reading c.args.schema.now.columns.items c.args.line.now c.row_start-start.result.now _ c.in_ok-refused.refused
    (c.row_start-start.ensures.row (not_empty c.row_start-start.result.now c.is_empty.result c.is_empty.ensures c.if-is_empty.false) c.args.schema.now.delimiter.byte) c.in_ok-refused.ensures.fields
