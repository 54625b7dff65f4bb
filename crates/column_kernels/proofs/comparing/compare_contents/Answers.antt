use Rattle.std.proofs.Common.{◌+◌, Bool, Option, arith}
use Rattle.arrow_columns.specs.Bitmaps.{bit_of}
use Rattle.arrow_columns.specs.Columns.{offset_in}
use Rattle.arrow_columns.specs.Formats.{items_of}
use Rattle.arrow_columns.specs.Integers.{integer_of, item_at, number_of, width_of, width_of_item}
use Rattle.arrow_columns.specs.Offsets.{bytes_between}
use Rattle.arrow_columns.specs.declared.tested_rows.Rows.TheVariants.{Booleans, Bytes, Integers, Strings, Values}
use Rattle.column_cells.specs.Contents.{stored_content}
use Rattle.vortex_value.specs.Values.Content.{Content, string, text, truth, whole}
use Rattle.vortex_value.specs.Values.Scalars.{scalar_content}
use Rattle.column_kernels.specs.Rows.{content_compared, option_of}
use Rattle.column_kernels.proofs.RowTests.{counted, null-known, range-known, shown}
use Rattle.column_kernels.proofs.comparing.compare_contents.Goals as goal

pub compare_integer_rows-requires-clause-range : goal.compare_integer_rows-requires-clause-range
compare_integer_rows-requires-clause-range c =
    let rows = c.in-Integers.rows in
    let column = rows.column in
    counted whole column.validity.now (λ i. integer_of rows.kind (item_at (width_of rows.kind) column.values.now i)) column.offset column.length (c.args.from + c.args.count) (range-known c.args.rows.now (Integers rows) (c.args.from + c.args.count) c.in-Integers.is c.requires.range)

pub compare_boolean_rows-requires-clause-range : goal.compare_boolean_rows-requires-clause-range
compare_boolean_rows-requires-clause-range c =
    let rows = c.in-Booleans.rows in
    let column = rows.column in
    counted truth column.validity.now (λ i. bit_of column.values.now i) column.offset column.length (c.args.from + c.args.count) (range-known c.args.rows.now (Booleans rows) (c.args.from + c.args.count) c.in-Booleans.is c.requires.range)

pub compare_strings-requires-clause-range : goal.compare_strings-requires-clause-range
compare_strings-requires-clause-range c =
    let rows = c.in-Strings.rows in
    let column = rows.column in
    counted text column.validity.now (λ i. bytes_between column.values.now (offset_in rows.width column) i) column.offset column.length (c.args.from + c.args.count) (range-known c.args.rows.now (Strings rows) (c.args.from + c.args.count) c.in-Strings.is c.requires.range)

pub compare_byte_rows-requires-clause-range : goal.compare_byte_rows-requires-clause-range
compare_byte_rows-requires-clause-range c =
    let rows = c.in-Bytes.rows in
    let column = rows.column in
    counted string column.validity.now (λ i. bytes_between column.values.now (offset_in rows.width column) i) column.offset column.length (c.args.from + c.args.count) (range-known c.args.rows.now (Bytes rows) (c.args.from + c.args.count) c.in-Bytes.is c.requires.range)

pub compare_values-requires-clause-range : goal.compare_values-requires-clause-range
compare_values-requires-clause-range c =
    let rows = c.in-Values.rows in
    let column = rows.column in
    counted (stored_content rows.format) column.validity.now (λ i. number_of (items_of rows.format) (item_at (width_of_item (items_of rows.format)) column.values.now i)) column.offset column.length (c.args.from + c.args.count) (range-known c.args.rows.now (Values rows) (c.args.from + c.args.count) c.in-Values.is c.requires.range)

pub returns-in-Integers-clause-truth : goal.returns-in-Integers-clause-truth
returns-in-Integers-clause-truth c = λ row below. shown (λ d. option_of (content_compared c.args.operator d (scalar_content c.args.literal.now))) c.args.rows.now (Integers c.in-Integers.rows) (c.args.from + row) _ c.in-Integers.is (c.compare_integer_rows.ensures.truth row below)

pub returns-in-Booleans-clause-truth : goal.returns-in-Booleans-clause-truth
returns-in-Booleans-clause-truth c = λ row below. shown (λ d. option_of (content_compared c.args.operator d (scalar_content c.args.literal.now))) c.args.rows.now (Booleans c.in-Booleans.rows) (c.args.from + row) _ c.in-Booleans.is (c.compare_boolean_rows.ensures.truth row below)

pub returns-in-Strings-clause-truth : goal.returns-in-Strings-clause-truth
returns-in-Strings-clause-truth c = λ row below. shown (λ d. option_of (content_compared c.args.operator d (scalar_content c.args.literal.now))) c.args.rows.now (Strings c.in-Strings.rows) (c.args.from + row) _ c.in-Strings.is (c.compare_strings.ensures.truth row below)

pub returns-in-Bytes-clause-truth : goal.returns-in-Bytes-clause-truth
returns-in-Bytes-clause-truth c = λ row below. shown (λ d. option_of (content_compared c.args.operator d (scalar_content c.args.literal.now))) c.args.rows.now (Bytes c.in-Bytes.rows) (c.args.from + row) _ c.in-Bytes.is (c.compare_byte_rows.ensures.truth row below)

pub returns-in-Values-clause-truth : goal.returns-in-Values-clause-truth
returns-in-Values-clause-truth c = λ row below. shown (λ d. option_of (content_compared c.args.operator d (scalar_content c.args.literal.now))) c.args.rows.now (Values c.in-Values.rows) (c.args.from + row) _ c.in-Values.is (c.compare_values.ensures.truth row below)

pub returns-in-Nulls-clause-truth : goal.returns-in-Nulls-clause-truth
returns-in-Nulls-clause-truth c = λ row below.
    let says : Content → Option Bool = (λ d. option_of (content_compared c.args.operator d (scalar_content c.args.literal.now))) in
    null-known says c.args.rows.now _ c.args.from c.args.count row _ c.in-Nulls.is below c.requires.range (c.fill_words.ensures.rows row (omega (arith, below, c.requires.words)))
