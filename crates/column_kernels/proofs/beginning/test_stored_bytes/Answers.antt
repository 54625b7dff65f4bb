use Rattle.std.proofs.Common.{◌+◌, None, arith, nat_eq}
use Rattle.std.specs.List.{starts_with}
use Rattle.arrow_columns.specs.Formats.{items_of}
use Rattle.arrow_columns.specs.Integers.{item_at, number_of, width_of_item}
use Rattle.column_cells.specs.Contents.{stored_content}
use Rattle.logical_types.specs.Storing.{decimal_bytes}
use Rattle.vortex_value.specs.Values.Scalars.{scalar_content}
use Rattle.vortex_filter.specs.Prefixes.{begins, begins_truth}
use Rattle.column_kernels.specs.Rows.{option_of}
use Rattle.column_kernels.specs.Truths.{number_cell, tested}
use Rattle.column_kernels.proofs.RowTests.{bytes-begin, bytes-unprefixed, numbers-told, row-told, stored-as-bytes}
use Rattle.column_kernels.proofs.beginning.test_stored_bytes.Goals as goal

pub returns-in-Some-clause-truth : goal.returns-in-Some-clause-truth
returns-in-Some-clause-truth c = λ row below.
    let rows = c.args.rows.now in
    let column = rows.column in
    row-told (λ x. option_of (begins_truth (begins x (scalar_content c.args.prefix.now)))) (stored_content rows.format) (tested (λ z. starts_with nat_eq (decimal_bytes z) c.in-Some.bytes.now)) column.validity.now (λ i. number_of (items_of rows.format) (item_at (width_of_item (items_of rows.format)) column.values.now i)) column.offset column.length (c.args.from + row) _ (omega (arith, below, c.requires.range))
    (bytes-begin (stored_content rows.format) decimal_bytes (scalar_content c.args.prefix.now) c.in-Some.bytes.now (stored-as-bytes rows.format c.requires.stored) c.in-Some.ensures) (numbers-told (λ kind column. tested (λ z. starts_with nat_eq (decimal_bytes z) c.in-Some.bytes.now) (number_cell (width_of_item kind) kind column (c.args.from + row))) _ (items_of rows.format) _ column _ c.numbers.ensures.kind c.numbers.ensures.column (c.test_prefix_of_decimals.ensures.truth row below))

pub returns-in-None-clause-truth : goal.returns-in-None-clause-truth
returns-in-None-clause-truth c = λ row below.
    let rows = c.args.rows.now in
    let column = rows.column in
    row-told (λ x. option_of (begins_truth (begins x (scalar_content c.args.prefix.now)))) (stored_content rows.format) (λ cell. None) column.validity.now (λ i. number_of (items_of rows.format) (item_at (width_of_item (items_of rows.format)) column.values.now i)) column.offset column.length (c.args.from + row) _ (omega (arith, below, c.requires.range))
    (bytes-unprefixed (stored_content rows.format) decimal_bytes (scalar_content c.args.prefix.now) (stored-as-bytes rows.format c.requires.stored) c.in-None.ensures) (c.fill_words.ensures.rows row (omega (arith, below, c.requires.words)))
