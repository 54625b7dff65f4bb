use Rattle.std.proofs.Common.{◌∙◌, ◌+◌, None, Some, List, sym, ℕ}
use Rattle.arrow_columns.specs.Cells.{cell_at}
use Rattle.arrow_columns.specs.Columns.{offset_in}
use Rattle.arrow_columns.specs.Offsets.{bytes_between}
use Rattle.arrow_columns.proofs.CellLists.{cell_got, null_cell, valid_cell}
use Rattle.arrow_columns.proofs.tested_rows.ByteRows.bytes_at.Goals as goal

pub returns-then-is_row_valid : goal.returns-then-is_row_valid
returns-then-is_row_valid c =
    let column = c.args.self.now.column in
    let V : ℕ → List ℕ = bytes_between column.values.now (offset_in c.args.self.now.width column) in
    let i : ℕ = column.offset + c.args.row in
    cell_got (cell_at column.validity.now V) column.offset column.length c.args.row (Some c.bytes_of.result.now) c.requires
    (valid_cell column.validity.now V i c.bytes_of.result.now (sym c.is_row_valid.ensures ∙ c.if-is_row_valid.true) c.bytes_of.ensures)

pub returns-else-is_row_valid : goal.returns-else-is_row_valid
returns-else-is_row_valid c =
    let column = c.args.self.now.column in
    let V : ℕ → List ℕ = bytes_between column.values.now (offset_in c.args.self.now.width column) in
    let i : ℕ = column.offset + c.args.row in
    cell_got (cell_at column.validity.now V) column.offset column.length c.args.row None c.requires
    (null_cell column.validity.now V i (sym c.is_row_valid.ensures ∙ c.if-is_row_valid.false))
