-- What callers are told of a column that cannot be read.
use Rattle.std.specs.Prelude.{ℕ}
use Rattle.arrow_columns.specs.declared.errors.Buffer.TheVariants.{Offsets, Validity, Values}
use Rattle.arrow_columns.specs.declared.errors.ColumnError.{ColumnError}
use Rattle.arrow_columns.specs.declared.errors.ColumnError.TheVariants.{BadOffsets, NotAValue, NotUtf8, TooManyRows, TooShort, UnknownKind}
use Rattle.vortex_c.specs.declared.status.TheConstants.{BAD_OFFSETS, NOT_A_VALUE, NOT_UTF8, TOO_MANY_ROWS, TOO_SHORT, UNKNOWN_KIND}

-- the status
abbrev pub status_of_column : ColumnError → ℕ
status_of_column UnknownKind = UNKNOWN_KIND
status_of_column TooManyRows = TOO_MANY_ROWS
status_of_column (TooShort buffer) = TOO_SHORT
status_of_column (BadOffsets row) = BAD_OFFSETS
status_of_column (NotUtf8 row) = NOT_UTF8
status_of_column (NotAValue row) = NOT_A_VALUE

-- where in the column: the row, or the buffer
abbrev pub place_in_column : ColumnError → ℕ
place_in_column UnknownKind = 0
place_in_column TooManyRows = 0
place_in_column (TooShort Validity) = 0
place_in_column (TooShort Values) = 1
place_in_column (TooShort Offsets) = 2
place_in_column (BadOffsets row) = row
place_in_column (NotUtf8 row) = row
place_in_column (NotAValue row) = row
