-- The rows of a column that can be read.
use Rattle.std.specs.Prelude.{◌≡◌, Some}
use Rattle.arrow_columns.specs.Columns.{AreValuesBefore, kind_in, with_start}
use Rattle.arrow_columns.specs.Errors.{AreTextRows}
use Rattle.arrow_columns.specs.Formats.{IsSound}
use Rattle.arrow_columns.specs.declared.columns.Column.{Column}
use Rattle.arrow_columns.specs.declared.kinds.Kind.{Kind}
use Rattle.arrow_columns.specs.declared.kinds.Kind.TheVariants.{Binary, Boolean, Integer, LargeBinary, LargeUtf8, Logical, Null, Utf8}
use Rattle.arrow_columns.specs.declared.offset_width.OffsetWidth.{OffsetWidth}
use Rattle.arrow_columns.specs.declared.offset_width.OffsetWidth.TheVariants.{Bits32, Bits64}
use Rattle.arrow_columns.specs.declared.tested_rows.Rows.{Rows}
use Rattle.arrow_columns.specs.declared.tested_rows.Rows.TheVariants.{Booleans, Bytes, Integers, Nulls, Strings, Values}

-- the kinds with offsets of this width
abbrev pub string_kind : OffsetWidth → Kind
string_kind Bits32 = Utf8
string_kind Bits64 = LargeUtf8

abbrev pub byte_kind : OffsetWidth → Kind
byte_kind Bits32 = Binary
byte_kind Bits64 = LargeBinary

-- the rows are the column's, by its kind
abbrev pub AreRowsOf : Column → Rows → Type 0
AreRowsOf column (Integers rows) = (kind_in column ≡ Some (Integer rows.kind)) × (rows.column ≡ with_start column)
AreRowsOf column (Booleans rows) = (kind_in column ≡ Some Boolean) × (rows.column ≡ with_start column)
AreRowsOf column (Strings rows) = (kind_in column ≡ Some (string_kind rows.width)) × (rows.column ≡ with_start column) × AreTextRows rows.width (with_start column) (with_start column).length
AreRowsOf column (Bytes rows) = (kind_in column ≡ Some (byte_kind rows.width)) × (rows.column ≡ with_start column)
AreRowsOf column (Nulls count) = (kind_in column ≡ Some Null) × (count ≡ column.length)
AreRowsOf column (Values rows) =
    (kind_in column ≡ Some (Logical rows.format)) × (rows.column ≡ with_start column) × IsSound rows.format
    × AreValuesBefore rows.format (with_start column) (with_start column).length
