-- The row that is read is the one that is computed, of values of the columns; and what is told of one that is refused.
use Rattle.std.proofs.Common.{sym}
use Rattle.record_search.proofs.RefusedLaws.{passed_none, passed_row, refused_right, row_refused}
use Rattle.record_search.proofs.RowLaws.{row_is}
use Rattle.record_rows.specs.Rows.{fitted}
use Rattle.record_columns.proofs.KindValues.{values_in}
use Rattle.record_columns.proofs.rows.row_of_line.Goals as goal

pub returns-in-Ok-Some-clause-row : goal.returns-in-Ok-Some-clause-row
returns-in-Ok-Some-clause-row c =
    let s = c.args.schema.now in
    sym (row_is c.shapes_say_words.ensures s.delimiter.byte s.reading s.columns.items c.args.line.now c.read_row.new.row.items c.in-Ok-Some.field-0-0 (rw c.in-Ok-Some.field-0-is at c.in-Ok-Some.ensures.row))

pub returns-in-Ok-Some-clause-values : goal.returns-in-Ok-Some-clause-values
returns-in-Ok-Some-clause-values c =
    let s = c.args.schema.now in
    let h = rw c.in-Ok-Some.field-0-is at c.in-Ok-Some.ensures.row in
    values_in s.reading s.columns.items (fitted s.reading.is_lenient s.columns.items h.fields) c.read_row.new.row.items h.flags h.cells

pub returns-in-Err-clause-refused : goal.returns-in-Err-clause-refused
returns-in-Err-clause-refused c = rw c.record_fault.ensures (row_refused c.args.schema.now c.args.place c.args.line.now c.in-Err.fault c.in-Err.ensures.refused)

pub returns-in-Ok-Some-clause-passed : goal.returns-in-Ok-Some-clause-passed
returns-in-Ok-Some-clause-passed c =
    let s = c.args.schema.now in
    passed_row s c.args.line.now _ (row_is c.shapes_say_words.ensures s.delimiter.byte s.reading s.columns.items c.args.line.now c.read_row.new.row.items c.in-Ok-Some.field-0-0 (rw c.in-Ok-Some.field-0-is at c.in-Ok-Some.ensures.row))

pub returns-in-Ok-None-clause-passed : goal.returns-in-Ok-None-clause-passed
returns-in-Ok-None-clause-passed c = passed_none c.args.schema.now c.args.line.now (rw c.in-Ok-None.field-0-is at c.in-Ok-None.ensures.row)

pub returns-in-Err-clause-right : goal.returns-in-Err-clause-right
returns-in-Err-clause-right c = rw c.record_fault.ensures (refused_right c.shapes_say_words.ensures c.args.schema.now c.args.place c.args.line.now c.in-Err.fault c.in-Err.ensures.refused)
