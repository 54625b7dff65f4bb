use Rattle.std.proofs.Common.{◌+◌, ◌∙◌, None, arith, sym}
use Rattle.arrow_columns.specs.Formats.{items_of}
use Rattle.arrow_columns.specs.Integers.{item_at, number_of, width_of_item}
use Rattle.column_cells.specs.Contents.{stored_content}
use Rattle.vortex_filter.specs.Prefixes.{begins, begins_truth}
use Rattle.vortex_value.specs.Values.Scalars.{scalar_content}
use Rattle.column_kernels.specs.Rows.{option_of}
use Rattle.column_kernels.proofs.RowTests.{number-unprefixed, row-told, stored-as-numbers}
use Rattle.column_kernels.proofs.beginning.test_values.Goals as goal

pub returns-else-stores_bytes-clause-truth : goal.returns-else-stores_bytes-clause-truth
returns-else-stores_bytes-clause-truth c = λ row below.
    let rows = c.args.rows.now in
    let column = rows.column in
    row-told (λ x. option_of (begins_truth (begins x (scalar_content c.args.prefix.now)))) (stored_content rows.format) (λ cell. None) column.validity.now (λ i. number_of (items_of rows.format) (item_at (width_of_item (items_of rows.format)) column.values.now i)) column.offset column.length (c.args.from + row) _ (omega (arith, below, c.requires.range))
    (number-unprefixed (stored_content rows.format) (scalar_content c.args.prefix.now) (stored-as-numbers rows.format (sym c.stores_bytes.ensures ∙ c.if-stores_bytes.false))) (c.fill_words.ensures.rows row (omega (arith, below, c.requires.words)))
