use mir.Syntax.{w128}
use Rattle.std.proofs.Common.{◌≡◌, ◌∙◌, ◌+◌, Bool, None, Some, ap, arith, of_z, refl, to_z, ℤ}
use Rattle.std.proofs.lemmas.Int.{ints}
use Rattle.std.specs.Cmp.Lexicographic.{slice_cmp}
use Rattle.std.specs.Ordering.{nat_cmp}
use Rattle.arrow_columns.specs.Cells.{cell_at}
use Rattle.arrow_columns.specs.Integers.{item_at, number_of, width_of_item}
use Rattle.logical_types.specs.Storing.{decimal_bytes}
use Rattle.vortex_filter.specs.Operators.{holds}
use Rattle.column_kernels.proofs.CellSteps.{test-read}
use Rattle.column_kernels.proofs.items.fn.compare_decimals.write_rows.Goals as goal

pub returns-in-Some : goal.returns-in-Some
returns-in-Some c =
    let rows = c.captures.rows.now in
    let column = rows.column in
    let test : ℤ → Bool = λ z. holds c.captures.operator (slice_cmp nat_cmp (decimal_bytes z) c.captures.literal.now) in
    let same : to_z w128 (of_z w128 c.in-Some.number) ≡ c.in-Some.number = omega (arith, ints) in
    let bytes = c.as_slice.ensures ∙ c.bytes_of_decimal.ensures ∙ ap decimal_bytes same in
    test-read test (cell_at column.validity.now (λ i. number_of rows.kind (item_at (width_of_item rows.kind) column.values.now i))) column.offset column.length (c.captures.from + c.args.row) (Some c.in-Some.number) _ c.requires c.in-Some.ensures
    (c.holds.ensures ∙ ap (holds c.captures.operator) (c.cmp.ensures ∙ ap (λ bytes. slice_cmp nat_cmp bytes c.captures.literal.now) bytes))

pub returns-in-None : goal.returns-in-None
returns-in-None c =
    let rows = c.captures.rows.now in
    let column = rows.column in
    let test : ℤ → Bool = λ z. holds c.captures.operator (slice_cmp nat_cmp (decimal_bytes z) c.captures.literal.now) in
    test-read test (cell_at column.validity.now (λ i. number_of rows.kind (item_at (width_of_item rows.kind) column.values.now i))) column.offset column.length (c.captures.from + c.args.row) None _ c.requires c.in-None.ensures refl
