use Rattle.std.proofs.Common.{◌∙◌, ◌+◌, None, Some, sym, ℕ}
use Rattle.arrow_columns.specs.Bitmaps.{bit_of}
use Rattle.arrow_columns.specs.Cells.{cell_at}
use Rattle.arrow_columns.proofs.CellLists.{cell_got, null_cell, valid_cell}
use Rattle.arrow_columns.proofs.tested_rows.BooleanRows.bool_at.Goals as goal

pub returns-then-is_row_valid : goal.returns-then-is_row_valid
returns-then-is_row_valid c =
    let column = c.args.self.now.column in
    let i : ℕ = column.offset + c.args.row in
    cell_got (cell_at column.validity.now (bit_of column.values.now)) column.offset column.length c.args.row (Some c.is_set.result) c.requires
    (valid_cell column.validity.now (bit_of column.values.now) i c.is_set.result (sym c.is_row_valid.ensures ∙ c.if-is_row_valid.true) c.is_set.ensures)

pub returns-else-is_row_valid : goal.returns-else-is_row_valid
returns-else-is_row_valid c =
    let column = c.args.self.now.column in
    let i : ℕ = column.offset + c.args.row in
    cell_got (cell_at column.validity.now (bit_of column.values.now)) column.offset column.length c.args.row None c.requires
    (null_cell column.validity.now (bit_of column.values.now) i (sym c.is_row_valid.ensures ∙ c.if-is_row_valid.false))
