-- The numbers of rows of a logical type, and their scalars.
use Rattle.std.proofs.Common.{◌≡◌, ◌<◌, ℕ, ℤ, Option, Some, slice_get, subst, sym}
use Rattle.std.specs.Option.{IfSome}
use Rattle.arrow_columns.specs.Columns.{item_cells, logical_cells}
use Rattle.arrow_columns.specs.Formats.{IsSound, IsValueOf, items_of}
use Rattle.arrow_columns.specs.declared.tested_rows.ItemRows.{ItemRows}
use Rattle.arrow_columns.specs.declared.tested_rows.LogicalRows.{LogicalRows}
use Rattle.arrow_columns.specs.declared.tested_rows.Rows.TheVariants.{Values}
use Rattle.column_cells.specs.Contents.{HasTexts}
use Rattle.std.proofs.lemmas.Option.{get_or_from_slice_get, slice_get_within}

pub row_of_numbers : (rows : LogicalRows) (numbers : ItemRows) {row : ℕ} → numbers.column ≡ rows.column → row < rows.column.length → row < numbers.column.length
row_of_numbers rows numbers {row = row} e l = subst (λ c. row < c.length) (sym e) l

pub numbers_are : (rows : LogicalRows) (numbers : ItemRows) (row : ℕ) (o : Option ℤ) → numbers.kind ≡ items_of rows.format → numbers.column ≡ rows.column
    → slice_get (item_cells numbers.kind numbers.column) row ≡ Some o → slice_get (logical_cells rows.format rows.column) row ≡ Some o
numbers_are rows numbers row o k e h =
    subst (λ c. slice_get (item_cells (items_of rows.format) c) row ≡ Some o) e (subst (λ kind. slice_get (item_cells kind numbers.column) row ≡ Some o) k h)

pub value_cell : (rows : LogicalRows) (numbers : ItemRows) (row : ℕ) (o : Option ℤ) → numbers.kind ≡ items_of rows.format → numbers.column ≡ rows.column → HasTexts (Values rows)
    → slice_get (item_cells numbers.kind numbers.column) row ≡ Some o → IsSound rows.format × IfSome o (IsValueOf rows.format)
value_cell rows numbers row o k e texts h =
    let cells = logical_cells rows.format rows.column in
    let got = numbers_are rows numbers row o k e h in
    (texts.0, subst (λ o. IfSome o (IsValueOf rows.format)) (get_or_from_slice_get cells row o o got) (texts.1 row o (slice_get_within cells row o got)))
