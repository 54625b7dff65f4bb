use Rattle.std.proofs.Common.{◌+◌, Bool, None, Option, arith, refl}
use Rattle.arrow_columns.specs.Bitmaps.{bit_of}
use Rattle.arrow_columns.specs.Columns.{offset_in}
use Rattle.arrow_columns.specs.Formats.{items_of}
use Rattle.arrow_columns.specs.Integers.{integer_of, item_at, number_of, width_of, width_of_item}
use Rattle.arrow_columns.specs.Offsets.{bytes_between}
use Rattle.arrow_columns.specs.declared.tested_rows.Rows.TheVariants.{Booleans, Bytes, Integers, Strings, Values}
use Rattle.column_cells.specs.Contents.{stored_content}
use Rattle.vortex_value.specs.Values.Content.{Content, string, text, truth, whole}
use Rattle.vortex_value.specs.Values.Scalars.{scalar_content}
use Rattle.vortex_filter.specs.Prefixes.{begins, begins_truth}
use Rattle.column_kernels.specs.Rows.{option_of}
use Rattle.column_kernels.proofs.RowTests.{boolean-unprefixed, counted, null-known, number-unprefixed, range-known, row-told, shown}
use Rattle.column_kernels.proofs.beginning.test_contents.Goals as goal

pub test_strings-requires-clause-range : goal.test_strings-requires-clause-range
test_strings-requires-clause-range c =
    let rows = c.in-Strings.rows in
    let column = rows.column in
    counted text column.validity.now (λ i. bytes_between column.values.now (offset_in rows.width column) i) column.offset column.length (c.args.from + c.args.count) (range-known c.args.rows.now (Strings rows) (c.args.from + c.args.count) c.in-Strings.is c.requires.range)

pub test_byte_rows-requires-clause-range : goal.test_byte_rows-requires-clause-range
test_byte_rows-requires-clause-range c =
    let rows = c.in-Bytes.rows in
    let column = rows.column in
    counted string column.validity.now (λ i. bytes_between column.values.now (offset_in rows.width column) i) column.offset column.length (c.args.from + c.args.count) (range-known c.args.rows.now (Bytes rows) (c.args.from + c.args.count) c.in-Bytes.is c.requires.range)

pub test_values-requires-clause-range : goal.test_values-requires-clause-range
test_values-requires-clause-range c =
    let rows = c.in-Values.rows in
    let column = rows.column in
    counted (stored_content rows.format) column.validity.now (λ i. number_of (items_of rows.format) (item_at (width_of_item (items_of rows.format)) column.values.now i)) column.offset column.length (c.args.from + c.args.count) (range-known c.args.rows.now (Values rows) (c.args.from + c.args.count) c.in-Values.is c.requires.range)

pub returns-in-Strings-clause-truth : goal.returns-in-Strings-clause-truth
returns-in-Strings-clause-truth c = λ row below. shown (λ d. option_of (begins_truth (begins d (scalar_content c.args.prefix.now)))) c.args.rows.now (Strings c.in-Strings.rows) (c.args.from + row) _ c.in-Strings.is (c.test_strings.ensures.truth row below)

pub returns-in-Bytes-clause-truth : goal.returns-in-Bytes-clause-truth
returns-in-Bytes-clause-truth c = λ row below. shown (λ d. option_of (begins_truth (begins d (scalar_content c.args.prefix.now)))) c.args.rows.now (Bytes c.in-Bytes.rows) (c.args.from + row) _ c.in-Bytes.is (c.test_byte_rows.ensures.truth row below)

pub returns-in-Values-clause-truth : goal.returns-in-Values-clause-truth
returns-in-Values-clause-truth c = λ row below. shown (λ d. option_of (begins_truth (begins d (scalar_content c.args.prefix.now)))) c.args.rows.now (Values c.in-Values.rows) (c.args.from + row) _ c.in-Values.is (c.test_values.ensures.truth row below)

pub returns-in-Nulls-clause-truth : goal.returns-in-Nulls-clause-truth
returns-in-Nulls-clause-truth c = λ row below.
    let says : Content → Option Bool = (λ d. option_of (begins_truth (begins d (scalar_content c.args.prefix.now)))) in
    null-known says c.args.rows.now _ c.args.from c.args.count row _ c.in-Nulls.is below c.requires.range (c.fill_words-in-Nulls.ensures.rows row (omega (arith, below, c.requires.words)))

pub returns-in-Integers-clause-truth : goal.returns-in-Integers-clause-truth
returns-in-Integers-clause-truth c = λ row below.
    let says : Content → Option Bool = λ d. option_of (begins_truth (begins d (scalar_content c.args.prefix.now))) in
    let column = c.in-Integers.field-0.column in
    let within = counted whole column.validity.now (λ i. integer_of c.in-Integers.field-0.kind (item_at (width_of c.in-Integers.field-0.kind) column.values.now i)) column.offset column.length (c.args.from + c.args.count) (range-known c.args.rows.now (Integers c.in-Integers.field-0) (c.args.from + c.args.count) c.in-Integers.is c.requires.range) in
    shown says c.args.rows.now (Integers c.in-Integers.field-0) (c.args.from + row) _ c.in-Integers.is
    (row-told says whole (λ cell. None) column.validity.now (λ i. integer_of c.in-Integers.field-0.kind (item_at (width_of c.in-Integers.field-0.kind) column.values.now i)) column.offset column.length (c.args.from + row) _ (omega (arith, below, within))
    (number-unprefixed whole (scalar_content c.args.prefix.now) (λ z. refl)) (c.fill_words.ensures.rows row (omega (arith, below, c.requires.words))))

pub returns-in-Booleans-clause-truth : goal.returns-in-Booleans-clause-truth
returns-in-Booleans-clause-truth c = λ row below.
    let says : Content → Option Bool = λ d. option_of (begins_truth (begins d (scalar_content c.args.prefix.now))) in
    let column = c.in-Booleans.field-0.column in
    let within = counted truth column.validity.now (λ i. bit_of column.values.now i) column.offset column.length (c.args.from + c.args.count) (range-known c.args.rows.now (Booleans c.in-Booleans.field-0) (c.args.from + c.args.count) c.in-Booleans.is c.requires.range) in
    shown says c.args.rows.now (Booleans c.in-Booleans.field-0) (c.args.from + row) _ c.in-Booleans.is
    (row-told says truth (λ cell. None) column.validity.now (λ i. bit_of column.values.now i) column.offset column.length (c.args.from + row) _ (omega (arith, below, within))
    (boolean-unprefixed (scalar_content c.args.prefix.now)) (c.fill_words-in-Booleans.ensures.rows row (omega (arith, below, c.requires.words))))
