use mir.Syntax.{w128}
use Rattle.std.proofs.Common.{◌≡◌, ◌∙◌, ◌+◌, Bool, None, Some, ap, arith, nat_eq, of_z, refl, to_z, ℤ}
use Rattle.std.proofs.lemmas.Int.{ints}
use Rattle.std.specs.List.{starts_with}
use Rattle.arrow_columns.specs.Cells.{cell_at}
use Rattle.arrow_columns.specs.Integers.{item_at, number_of, width_of_item}
use Rattle.logical_types.specs.Storing.{decimal_bytes}
use Rattle.column_kernels.proofs.CellSteps.{test-read}
use Rattle.column_kernels.proofs.items.fn.test_prefix_of_decimals.write_rows.Goals as goal

pub returns-in-Some : goal.returns-in-Some
returns-in-Some c =
    let rows = c.captures.rows.now in
    let column = rows.column in
    let test : ℤ → Bool = λ z. starts_with nat_eq (decimal_bytes z) c.captures.prefix.now in
    let same : to_z w128 (of_z w128 c.in-Some.number) ≡ c.in-Some.number = omega (arith, ints) in
    let bytes = c.as_slice.ensures ∙ c.bytes_of_decimal.ensures ∙ ap decimal_bytes same in
    test-read test (cell_at column.validity.now (λ i. number_of rows.kind (item_at (width_of_item rows.kind) column.values.now i))) column.offset column.length (c.captures.from + c.args.row) (Some c.in-Some.number) _ c.requires c.in-Some.ensures
    (c.starts_with.ensures.value ∙ ap (λ bytes. starts_with nat_eq bytes c.captures.prefix.now) bytes)

pub returns-in-None : goal.returns-in-None
returns-in-None c =
    let rows = c.captures.rows.now in
    let column = rows.column in
    let test : ℤ → Bool = λ z. starts_with nat_eq (decimal_bytes z) c.captures.prefix.now in
    test-read test (cell_at column.validity.now (λ i. number_of rows.kind (item_at (width_of_item rows.kind) column.values.now i))) column.offset column.length (c.captures.from + c.args.row) None _ c.requires c.in-None.ensures refl
