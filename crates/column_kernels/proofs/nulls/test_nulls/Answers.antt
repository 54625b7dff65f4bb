use Rattle.std.proofs.Common.{◌+◌, Bool, Option, arith, refl}
use Rattle.arrow_columns.specs.Bitmaps.{bit_of}
use Rattle.arrow_columns.specs.Columns.{offset_in}
use Rattle.arrow_columns.specs.Formats.{items_of}
use Rattle.arrow_columns.specs.Integers.{integer_of, item_at, number_of, width_of, width_of_item}
use Rattle.arrow_columns.specs.Offsets.{bytes_between}
use Rattle.arrow_columns.specs.declared.tested_rows.Rows.TheVariants.{Booleans, Bytes, Integers, Strings, Values}
use Rattle.column_cells.specs.Contents.{stored_content}
use Rattle.vortex_cells.specs.Cells.{is_null_content}
use Rattle.vortex_filter.specs.Truths.{truth_of}
use Rattle.vortex_value.specs.Values.Content.{Content, string, text, truth, whole}
use Rattle.column_kernels.specs.Rows.{option_of}
use Rattle.column_kernels.proofs.RowTests.{counted, null-known, null-row, range-known, shown, stored-value}
use Rattle.column_kernels.proofs.nulls.test_nulls.Goals as goal

pub test_validity-requires-clause-range : goal.test_validity-requires-clause-range
test_validity-requires-clause-range c =
    let rows = c.in-Integers.rows in
    let column = rows.column in
    counted whole column.validity.now (λ i. integer_of rows.kind (item_at (width_of rows.kind) column.values.now i)) column.offset column.length (c.args.from + c.args.count) (range-known c.args.rows.now (Integers rows) (c.args.from + c.args.count) c.in-Integers.is c.requires.range)

pub returns-in-Integers-clause-truth : goal.returns-in-Integers-clause-truth
returns-in-Integers-clause-truth c = λ row below.
    let rows = c.in-Integers.rows in
    let column = rows.column in
    let within = counted whole column.validity.now (λ i. integer_of rows.kind (item_at (width_of rows.kind) column.values.now i)) column.offset column.length (c.args.from + c.args.count) (range-known c.args.rows.now (Integers rows) (c.args.from + c.args.count) c.in-Integers.is c.requires.range) in
    shown (λ d. option_of (truth_of (is_null_content d))) c.args.rows.now (Integers rows) (c.args.from + row) _ c.in-Integers.is
    (null-row whole column.validity.now (λ i. integer_of rows.kind (item_at (width_of rows.kind) column.values.now i)) column.offset column.length (c.args.from + row) _ (λ z. refl) (omega (arith, below, within)) (c.test_validity.ensures.truth row below))

pub test_validity-requires-in-Booleans-clause-range : goal.test_validity-requires-in-Booleans-clause-range
test_validity-requires-in-Booleans-clause-range c =
    let rows = c.in-Booleans.rows in
    let column = rows.column in
    counted truth column.validity.now (λ i. bit_of column.values.now i) column.offset column.length (c.args.from + c.args.count) (range-known c.args.rows.now (Booleans rows) (c.args.from + c.args.count) c.in-Booleans.is c.requires.range)

pub returns-in-Booleans-clause-truth : goal.returns-in-Booleans-clause-truth
returns-in-Booleans-clause-truth c = λ row below.
    let rows = c.in-Booleans.rows in
    let column = rows.column in
    let within = counted truth column.validity.now (λ i. bit_of column.values.now i) column.offset column.length (c.args.from + c.args.count) (range-known c.args.rows.now (Booleans rows) (c.args.from + c.args.count) c.in-Booleans.is c.requires.range) in
    shown (λ d. option_of (truth_of (is_null_content d))) c.args.rows.now (Booleans rows) (c.args.from + row) _ c.in-Booleans.is
    (null-row truth column.validity.now (λ i. bit_of column.values.now i) column.offset column.length (c.args.from + row) _ (λ b. refl) (omega (arith, below, within)) (c.test_validity-in-Booleans.ensures.truth row below))

pub test_validity-requires-in-Strings-clause-range : goal.test_validity-requires-in-Strings-clause-range
test_validity-requires-in-Strings-clause-range c =
    let rows = c.in-Strings.rows in
    let column = rows.column in
    counted text column.validity.now (λ i. bytes_between column.values.now (offset_in rows.width column) i) column.offset column.length (c.args.from + c.args.count) (range-known c.args.rows.now (Strings rows) (c.args.from + c.args.count) c.in-Strings.is c.requires.range)

pub returns-in-Strings-clause-truth : goal.returns-in-Strings-clause-truth
returns-in-Strings-clause-truth c = λ row below.
    let rows = c.in-Strings.rows in
    let column = rows.column in
    let within = counted text column.validity.now (λ i. bytes_between column.values.now (offset_in rows.width column) i) column.offset column.length (c.args.from + c.args.count) (range-known c.args.rows.now (Strings rows) (c.args.from + c.args.count) c.in-Strings.is c.requires.range) in
    shown (λ d. option_of (truth_of (is_null_content d))) c.args.rows.now (Strings rows) (c.args.from + row) _ c.in-Strings.is
    (null-row text column.validity.now (λ i. bytes_between column.values.now (offset_in rows.width column) i) column.offset column.length (c.args.from + row) _ (λ bytes. refl) (omega (arith, below, within)) (c.test_validity-in-Strings.ensures.truth row below))

pub test_validity-requires-in-Bytes-clause-range : goal.test_validity-requires-in-Bytes-clause-range
test_validity-requires-in-Bytes-clause-range c =
    let rows = c.in-Bytes.rows in
    let column = rows.column in
    counted string column.validity.now (λ i. bytes_between column.values.now (offset_in rows.width column) i) column.offset column.length (c.args.from + c.args.count) (range-known c.args.rows.now (Bytes rows) (c.args.from + c.args.count) c.in-Bytes.is c.requires.range)

pub returns-in-Bytes-clause-truth : goal.returns-in-Bytes-clause-truth
returns-in-Bytes-clause-truth c = λ row below.
    let rows = c.in-Bytes.rows in
    let column = rows.column in
    let within = counted string column.validity.now (λ i. bytes_between column.values.now (offset_in rows.width column) i) column.offset column.length (c.args.from + c.args.count) (range-known c.args.rows.now (Bytes rows) (c.args.from + c.args.count) c.in-Bytes.is c.requires.range) in
    shown (λ d. option_of (truth_of (is_null_content d))) c.args.rows.now (Bytes rows) (c.args.from + row) _ c.in-Bytes.is
    (null-row string column.validity.now (λ i. bytes_between column.values.now (offset_in rows.width column) i) column.offset column.length (c.args.from + row) _ (λ bytes. refl) (omega (arith, below, within)) (c.test_validity-in-Bytes.ensures.truth row below))

pub test_validity-requires-in-Values-clause-range : goal.test_validity-requires-in-Values-clause-range
test_validity-requires-in-Values-clause-range c =
    let rows = c.in-Values.rows in
    let column = rows.column in
    counted (stored_content rows.format) column.validity.now (λ i. number_of (items_of rows.format) (item_at (width_of_item (items_of rows.format)) column.values.now i)) column.offset column.length (c.args.from + c.args.count) (range-known c.args.rows.now (Values rows) (c.args.from + c.args.count) c.in-Values.is c.requires.range)

pub returns-in-Values-clause-truth : goal.returns-in-Values-clause-truth
returns-in-Values-clause-truth c = λ row below.
    let rows = c.in-Values.rows in
    let column = rows.column in
    let within = counted (stored_content rows.format) column.validity.now (λ i. number_of (items_of rows.format) (item_at (width_of_item (items_of rows.format)) column.values.now i)) column.offset column.length (c.args.from + c.args.count) (range-known c.args.rows.now (Values rows) (c.args.from + c.args.count) c.in-Values.is c.requires.range) in
    shown (λ d. option_of (truth_of (is_null_content d))) c.args.rows.now (Values rows) (c.args.from + row) _ c.in-Values.is
    (null-row (stored_content rows.format) column.validity.now (λ i. number_of (items_of rows.format) (item_at (width_of_item (items_of rows.format)) column.values.now i)) column.offset column.length (c.args.from + row) _ (stored-value rows.format) (omega (arith, below, within)) (c.test_validity-in-Values.ensures.truth row below))

pub returns-in-Nulls-clause-truth : goal.returns-in-Nulls-clause-truth
returns-in-Nulls-clause-truth c = λ row below.
    let says : Content → Option Bool = λ d. option_of (truth_of (is_null_content d)) in
    null-known says c.args.rows.now _ c.args.from c.args.count row _ c.in-Nulls.is below c.requires.range (c.fill_words.ensures.rows row (omega (arith, below, c.requires.words)))
