use Rattle.std.proofs.Common.{◌≡◌, ◌<◌, IsSomeAnd, List, Option, Some, length, slice_get, subst, sym, ℕ}
use Rattle.std.specs.Option.{option_copied}
use Rattle.arrow_columns.specs.Columns.{boolean_cells, byte_cells, integer_cells, logical_cells}
use Rattle.arrow_columns.specs.declared.tested_rows.Rows.TheVariants.{Booleans, Bytes, Integers, Nulls, Strings, Values}
use Rattle.vortex_dtype.specs.declared.error.VortexError.TheVariants.{OutOfMemory}
use Rattle.vortex_value.specs.Values.Content.{content, string, text, truth, whole}
use Rattle.vortex_value.specs.Values.RawOf.{raw_of}
use Rattle.column_cells.specs.Contents.{HasTexts, IsLongContent, content_or_null, contents_of_rows, stored_content}
use Rattle.column_cells.proofs.ContentLaws.{content_got, content_shown, err_all, integer_in_range, long_bytes, long_text, null_got, ok_all, row_shown, text_valid}
use Rattle.column_cells.proofs.ValueSteps.{numbers_are, row_of_numbers, value_cell}
use Rattle.column_cells.proofs.cells.value_at.Goals as goal
use Rattle.vortex_dtype.specs.declared.buffer.TheConstants.{INLINE_BYTES}

pub integer_at-requires : goal.integer_at-requires
integer_at-requires c = row_shown c.args.rows.now (Integers c.in-Integers.rows) c.args.row c.in-Integers.is c.requires.row

pub integer_value-requires : goal.integer_value-requires
integer_value-requires c =
    integer_in_range c.in-Integers.rows.kind c.in-Integers.rows.column c.args.row c.integer_at.result
    (row_shown c.args.rows.now (Integers c.in-Integers.rows) c.args.row c.in-Integers.is c.requires.row) c.items_are_bytes.ensures c.integer_at.ensures

pub bool_at-requires : goal.bool_at-requires
bool_at-requires c = row_shown c.args.rows.now (Booleans c.in-Booleans.rows) c.args.row c.in-Booleans.is c.requires.row

pub bytes_at-requires : goal.bytes_at-requires
bytes_at-requires c = row_shown c.args.rows.now (Strings c.in-Strings.rows) c.args.row c.in-Strings.is c.requires.row

pub text_value-requires : goal.text_value-requires
text_value-requires c =
    text_valid (byte_cells c.in-Strings.rows.width c.in-Strings.rows.column) c.args.row (option_copied c.bytes_at.result)
    (subst HasTexts c.in-Strings.is c.requires.texts) c.bytes_at.ensures

pub bytes_at-requires-in-Bytes : goal.bytes_at-requires-in-Bytes
bytes_at-requires-in-Bytes c = row_shown c.args.rows.now (Bytes c.in-Bytes.rows) c.args.row c.in-Bytes.is c.requires.row

pub returns-in-Integers-clause-content : goal.returns-in-Integers-clause-content
returns-in-Integers-clause-content c =
    content_shown c.args.rows.now (Integers c.in-Integers.rows) c.args.row _ c.in-Integers.is
    (content_got (content_or_null whole) (integer_cells c.in-Integers.rows.kind c.in-Integers.rows.column) c.args.row c.integer_at.result _ c.integer_at.ensures c.integer_value.ensures.content)

pub returns-in-Booleans-clause-content : goal.returns-in-Booleans-clause-content
returns-in-Booleans-clause-content c =
    content_shown c.args.rows.now (Booleans c.in-Booleans.rows) c.args.row _ c.in-Booleans.is
    (content_got (content_or_null truth) (boolean_cells c.in-Booleans.rows.column) c.args.row c.bool_at.result _ c.bool_at.ensures c.bool_value.ensures.content)

pub returns-in-Strings-clause-content : goal.returns-in-Strings-clause-content
returns-in-Strings-clause-content c =
    let o : Option (List ℕ) = option_copied c.bytes_at.result in
    ok_all c.text_value.result (λ v. content (raw_of v) ≡ content_or_null text o) (λ v. slice_get (contents_of_rows c.args.rows.now) c.args.row ≡ Some (content (raw_of v)))
    (λ v e. content_shown c.args.rows.now (Strings c.in-Strings.rows) c.args.row _ c.in-Strings.is
    (content_got (content_or_null text) (byte_cells c.in-Strings.rows.width c.in-Strings.rows.column) c.args.row o (content (raw_of v)) c.bytes_at.ensures e))
    c.text_value.ensures.content

pub returns-in-Strings-clause-refused : goal.returns-in-Strings-clause-refused
returns-in-Strings-clause-refused c =
    let o : Option (List ℕ) = option_copied c.bytes_at.result in
    err_all c.text_value.result (λ e. (e ≡ OutOfMemory) × IsSomeAnd o (λ bytes. INLINE_BYTES < length bytes)) (λ e. (e ≡ OutOfMemory) × IsSomeAnd (slice_get (contents_of_rows c.args.rows.now) c.args.row) IsLongContent)
    (λ e h. (
      h.0,
      subst (λ r. IsSomeAnd (slice_get (contents_of_rows r) c.args.row) IsLongContent) (sym c.in-Strings.is)
          (long_text (byte_cells c.in-Strings.rows.width c.in-Strings.rows.column) c.args.row o c.bytes_at.ensures h.1),
    ))
    c.text_value.ensures.refused

pub returns-in-Bytes-clause-content : goal.returns-in-Bytes-clause-content
returns-in-Bytes-clause-content c =
    let o : Option (List ℕ) = option_copied c.bytes_at-in-Bytes.result in
    ok_all c.byte_value.result (λ v. content (raw_of v) ≡ content_or_null string o) (λ v. slice_get (contents_of_rows c.args.rows.now) c.args.row ≡ Some (content (raw_of v)))
    (λ v e. content_shown c.args.rows.now (Bytes c.in-Bytes.rows) c.args.row _ c.in-Bytes.is
    (content_got (content_or_null string) (byte_cells c.in-Bytes.rows.width c.in-Bytes.rows.column) c.args.row o (content (raw_of v)) c.bytes_at-in-Bytes.ensures e))
    c.byte_value.ensures.content

pub returns-in-Bytes-clause-refused : goal.returns-in-Bytes-clause-refused
returns-in-Bytes-clause-refused c =
    let o : Option (List ℕ) = option_copied c.bytes_at-in-Bytes.result in
    err_all c.byte_value.result (λ e. (e ≡ OutOfMemory) × IsSomeAnd o (λ bytes. INLINE_BYTES < length bytes)) (λ e. (e ≡ OutOfMemory) × IsSomeAnd (slice_get (contents_of_rows c.args.rows.now) c.args.row) IsLongContent)
    (λ e h. (
      h.0,
      subst (λ r. IsSomeAnd (slice_get (contents_of_rows r) c.args.row) IsLongContent) (sym c.in-Bytes.is)
          (long_bytes (byte_cells c.in-Bytes.rows.width c.in-Bytes.rows.column) c.args.row o c.bytes_at-in-Bytes.ensures h.1),
    ))
    c.byte_value.ensures.refused

pub returns-in-Nulls-clause-content : goal.returns-in-Nulls-clause-content
returns-in-Nulls-clause-content c =
    content_shown c.args.rows.now (Nulls c.in-Nulls.field-0) c.args.row _ c.in-Nulls.is (null_got c.in-Nulls.field-0 c.args.row (subst (λ r. c.args.row < length (contents_of_rows r)) c.in-Nulls.is c.requires.row))

-- values of a logical type

pub number_at-number-requires : goal.number_at-number-requires
number_at-number-requires c = row_of_numbers c.in-Values.rows c.numbers.result c.numbers.ensures.column (row_shown c.args.rows.now (Values c.in-Values.rows) c.args.row c.in-Values.is c.requires.row)

pub stored_value-requires : goal.stored_value-requires
stored_value-requires c =
    let cell = value_cell c.in-Values.rows c.numbers.result c.args.row c.number_at-number.result c.numbers.ensures.kind c.numbers.ensures.column (subst HasTexts c.in-Values.is c.requires.texts) c.number_at-number.ensures in
    record { sound = cell.0; value = cell.1 }

pub returns-in-Values-clause-content : goal.returns-in-Values-clause-content
returns-in-Values-clause-content c =
    let format = c.in-Values.rows.format in
    content_shown c.args.rows.now (Values c.in-Values.rows) c.args.row _ c.in-Values.is
    (content_got (content_or_null (stored_content format)) (logical_cells format c.in-Values.rows.column) c.args.row c.number_at-number.result _
    (numbers_are c.in-Values.rows c.numbers.result c.args.row c.number_at-number.result c.numbers.ensures.kind c.numbers.ensures.column c.number_at-number.ensures) c.stored_value.ensures.content)
