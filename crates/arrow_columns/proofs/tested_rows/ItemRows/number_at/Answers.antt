use Rattle.std.proofs.Common.{◌∙◌, ◌+◌, None, arith, sym, ℕ, ℤ}
use Rattle.std.proofs.lemmas.Int.{ints}
use Rattle.arrow_columns.specs.Cells.{cell_at}
use Rattle.arrow_columns.specs.Integers.{item_at, number_of, width_of_item}
use Rattle.arrow_columns.proofs.CellLists.{cell_got, null_cell, through_number, valid_cell}
use Rattle.arrow_columns.proofs.tested_rows.ItemRows.number_at.Goals as goal

pub returns-then-is_row_valid : goal.returns-then-is_row_valid
returns-then-is_row_valid c =
    let column = c.args.self.now.column in
    let kind = c.args.self.now.kind in
    let V : ℕ → ℤ = λ i. number_of kind (item_at (width_of_item kind) column.values.now i) in
    let i : ℕ = column.offset + c.args.row in
    cell_got (cell_at column.validity.now V) column.offset column.length c.args.row _ c.requires
    (valid_cell column.validity.now V i _ (sym c.is_row_valid.ensures ∙ c.if-is_row_valid.true)
    (through_number _ c.number_of_kind.result _ (omega (arith, ints)) c.number_of_kind.ensures))

pub returns-else-is_row_valid : goal.returns-else-is_row_valid
returns-else-is_row_valid c =
    let column = c.args.self.now.column in
    let kind = c.args.self.now.kind in
    let V : ℕ → ℤ = λ i. number_of kind (item_at (width_of_item kind) column.values.now i) in
    let i : ℕ = column.offset + c.args.row in
    cell_got (cell_at column.validity.now V) column.offset column.length c.args.row None c.requires
    (null_cell column.validity.now V i (sym c.is_row_valid.ensures ∙ c.if-is_row_valid.false))
