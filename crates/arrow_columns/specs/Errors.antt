-- Why a column cannot be read.
use Rattle.std.specs.Prelude.{◌≡◌, ℕ, ◌+◌, ◌^◌, ◌<◌, ◌≤◌, IsUtf8, Option, Some, None, true}
use Rattle.arrow_columns.specs.Bitmaps.{is_valid, HasBits}
use Rattle.arrow_columns.specs.Columns.{AreRowsBefore, AreValuesBefore, HasBooleans, HasItems, HasOffsets, HasRows, IsByteColumn, IsItemColumn, IsValueRow, end_of, kind_in, offset_in, with_start}
use Rattle.arrow_columns.specs.Formats.{IsSound, items_of}
use Rattle.arrow_columns.specs.Offsets.{IsRow, bytes_between}
use Rattle.arrow_columns.specs.declared.columns.Column.{Column}
use Rattle.arrow_columns.specs.declared.errors.Buffer.TheVariants.{Offsets, Validity, Values}
use Rattle.arrow_columns.specs.declared.errors.ColumnError.{ColumnError}
use Rattle.arrow_columns.specs.declared.errors.ColumnError.TheVariants.{BadOffsets, NotAValue, NotUtf8, TooManyRows, TooShort, UnknownKind}
use Rattle.arrow_columns.specs.declared.formats.Format.{Format}
use Rattle.arrow_columns.specs.declared.kinds.IntegerKind.{IntegerKind}
use Rattle.arrow_columns.specs.declared.kinds.ItemKind.{ItemKind}
use Rattle.arrow_columns.specs.declared.kinds.ItemKind.TheVariants as items
use Rattle.arrow_columns.specs.declared.kinds.Kind.{Kind}
use Rattle.arrow_columns.specs.declared.kinds.Kind.TheVariants.{Binary, Boolean, Integer, LargeBinary, LargeUtf8, Logical, Null, Utf8}
use Rattle.arrow_columns.specs.declared.offset_width.OffsetWidth.{OffsetWidth}
use Rattle.arrow_columns.specs.declared.offset_width.OffsetWidth.TheVariants.{Bits32, Bits64}

-- what its offset, length and bitmap of validity have: any kind but that of nulls
abbrev pub IsRowsError : Column → ColumnError → Type 0
IsRowsError column UnknownKind = ⊥
IsRowsError column TooManyRows = 2 ^ 64 ≤ end_of column
IsRowsError column (TooShort Validity) = (end_of column < 2 ^ 64) × ¬ (HasBits column.validity.now (end_of column))
IsRowsError column (TooShort Values) = ⊥
IsRowsError column (TooShort Offsets) = ⊥
IsRowsError column (BadOffsets row) = ⊥
IsRowsError column (NotUtf8 row) = ⊥
IsRowsError column (NotAValue row) = ⊥

-- what its values have, if the rest has no error
abbrev pub IsItemError : ItemKind → Column → ColumnError → Type 0
IsItemError kind column UnknownKind = ⊥
IsItemError kind column TooManyRows = IsRowsError column TooManyRows
IsItemError kind column (TooShort Validity) = IsRowsError column (TooShort Validity)
IsItemError kind column (TooShort Values) = HasRows column × ¬ (HasItems kind column)
IsItemError kind column (TooShort Offsets) = ⊥
IsItemError kind column (BadOffsets row) = ⊥
IsItemError kind column (NotUtf8 row) = ⊥
IsItemError kind column (NotAValue row) = ⊥

abbrev pub IsIntegerError : IntegerKind → Column → ColumnError → Type 0
IsIntegerError kind column fault = IsItemError (items.Integer kind) column fault

-- of a logical type: the format is of none, or what its items have, or the first row that is no value
abbrev pub IsLogicalError : Format → Column → ColumnError → Type 0
IsLogicalError format column UnknownKind = ¬ (IsSound format)
IsLogicalError format column (NotAValue row) =
    IsItemColumn (items_of format) column × (row < column.length) × AreValuesBefore format column row × ¬ (IsValueRow format column row)
IsLogicalError format column fault = IsItemError (items_of format) column fault

abbrev pub IsBooleanError : Column → ColumnError → Type 0
IsBooleanError column UnknownKind = ⊥
IsBooleanError column TooManyRows = IsRowsError column TooManyRows
IsBooleanError column (TooShort Validity) = IsRowsError column (TooShort Validity)
IsBooleanError column (TooShort Values) = HasRows column × ¬ (HasBooleans column)
IsBooleanError column (TooShort Offsets) = ⊥
IsBooleanError column (BadOffsets row) = ⊥
IsBooleanError column (NotUtf8 row) = ⊥
IsBooleanError column (NotAValue row) = ⊥

-- the first row whose offsets are wrong
abbrev pub IsBadRow : OffsetWidth → Column → ℕ → Type 0
IsBadRow width column row =
    HasRows column × HasOffsets width column × (row < column.length) × AreRowsBefore width column row
    × ¬ (IsRow width column.values.now (offset_in width column) (column.offset + row))

abbrev pub IsByteError : OffsetWidth → Column → ColumnError → Type 0
IsByteError width column UnknownKind = ⊥
IsByteError width column TooManyRows = IsRowsError column TooManyRows
IsByteError width column (TooShort Validity) = IsRowsError column (TooShort Validity)
IsByteError width column (TooShort Values) = ⊥
IsByteError width column (TooShort Offsets) = HasRows column × ¬ (HasOffsets width column)
IsByteError width column (BadOffsets row) = IsBadRow width column row
IsByteError width column (NotUtf8 row) = ⊥
IsByteError width column (NotAValue row) = ⊥

-- the string of a row, if it is no null, is UTF-8
abbrev pub IsTextRow : OffsetWidth → Column → ℕ → Type 0
IsTextRow width column row =
    is_valid column.validity.now (column.offset + row) ≡ true → IsUtf8 (bytes_between column.values.now (offset_in width column) (column.offset + row))

abbrev pub AreTextRows : OffsetWidth → Column → ℕ → Type 0
AreTextRows width column end = (row : ℕ) → row < end → IsTextRow width column row

abbrev pub IsStringError : OffsetWidth → Column → ColumnError → Type 0
IsStringError width column UnknownKind = ⊥
IsStringError width column TooManyRows = IsRowsError column TooManyRows
IsStringError width column (TooShort Validity) = IsRowsError column (TooShort Validity)
IsStringError width column (TooShort Values) = ⊥
IsStringError width column (TooShort Offsets) = HasRows column × ¬ (HasOffsets width column)
IsStringError width column (BadOffsets row) = IsBadRow width column row
IsStringError width column (NotUtf8 row) = IsByteColumn width column × (row < column.length) × AreTextRows width column row × ¬ (IsTextRow width column row)
IsStringError width column (NotAValue row) = ⊥

-- why a column of this kind, which begins with the buffers if it has no row, cannot be read
abbrev pub IsErrorAt : Option Kind → Column → ColumnError → Type 0
IsErrorAt None column fault = fault ≡ UnknownKind
IsErrorAt (Some (Integer kind)) column fault = IsIntegerError kind column fault
IsErrorAt (Some Boolean) column fault = IsBooleanError column fault
IsErrorAt (Some Utf8) column fault = IsStringError Bits32 column fault
IsErrorAt (Some LargeUtf8) column fault = IsStringError Bits64 column fault
IsErrorAt (Some Binary) column fault = IsByteError Bits32 column fault
IsErrorAt (Some LargeBinary) column fault = IsByteError Bits64 column fault
IsErrorAt (Some Null) column fault = ⊥
IsErrorAt (Some (Logical format)) column fault = IsLogicalError format column fault

abbrev pub IsErrorOf : Column → ColumnError → Type 0
IsErrorOf column fault = IsErrorAt (kind_in column) (with_start column) fault
