use Rattle.std.proofs.Common.{◌∙◌, ◌+◌, Bool, Some, ap, nat_eq, ℕ, ℤ}
use Rattle.std.specs.List.{starts_with}
use Rattle.arrow_columns.specs.Integers.{item_at, number_of, width_of_item}
use Rattle.logical_types.specs.Storing.{decimal_bytes}
use Rattle.truth_bitmaps.specs.Truths.{truth_at}
use Rattle.column_kernels.proofs.CellSteps.{value-marked}
use Rattle.column_kernels.proofs.items.test_prefix_of_decimals.Goals as goal

pub returns-clause-truth : goal.returns-clause-truth
returns-clause-truth c = λ row below.
    let column = c.args.rows.now.column in
    let kind = c.args.rows.now.kind in
    let test : ℤ → Bool = λ z. starts_with nat_eq (decimal_bytes z) c.args.prefix.now in
    let value : ℕ → ℤ = λ i. number_of kind (item_at (width_of_item kind) column.values.now i) in
    let h = c.write_rows.ensures.rows row below in
    value-marked test column.validity.now value (column.offset + (c.args.from + row)) (truth_at c.write_rows.new.words row) _ (c.mark_null_rows.ensures.truth row below) (h.2 ∙ ap Some h.1)
