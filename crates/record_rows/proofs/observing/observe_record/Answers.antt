-- The row of a record is observed, and why there is none.
use Rattle.std.proofs.lemmas.Result.{err_from_is_err_and}
use Rattle.record_rows.proofs.Reading.{not_empty, refused_row}
use Rattle.record_rows.proofs.ObservedFields.{observed_line}
use Rattle.record_rows.proofs.observing.observe_record.Goals as goal

pub returns-in_err-notes-clause-refused : goal.returns-in_err-notes-clause-refused
returns-in_err-notes-clause-refused c =
    let p = err_from_is_err_and c.from_residual.result c.from_residual.ensures.1 in
    rw (p.1, p.2) (refused_row c.args.schema.now.delimiter.byte c.args.schema.now.reading c.args.schema.now.columns.items c.args.line.now c.row_start-start.result.now c.in_err-notes.field-0.0
    (c.row_start-start.ensures.row (not_empty c.row_start-start.result.now c.is_empty.result c.is_empty.ensures c.if-is_empty.false) c.args.schema.now.delimiter.byte) c.in_err-notes.ensures.refused)

pub returns-clause-observed : goal.returns-clause-observed
returns-clause-observed c =
    observed_line c.args.schema.now.delimiter.byte c.args.schema.now.reading c.args.schema.now.columns.items c.args.line.now c.row_start-start.result.now c.args.statistics.now c.observe_fields.new.statistics c.in_ok-notes.notes
    (c.row_start-start.ensures.row (not_empty c.row_start-start.result.now c.is_empty.result c.is_empty.ensures c.if-is_empty.false) c.args.schema.now.delimiter.byte) c.in_ok-notes.ensures.fields
