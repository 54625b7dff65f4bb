-- The kinds of columns in Arrow's layout that columns of records are written as.
use Rattle.arrow_columns.specs.declared.formats.DecimalWidth.TheVariants.{Bits128}
use Rattle.arrow_columns.specs.declared.formats.Format.{Format}
use Rattle.arrow_columns.specs.declared.formats.Format.TheVariants as formats
use Rattle.arrow_columns.specs.declared.kinds.IntegerKind.{IntegerKind}
use Rattle.arrow_columns.specs.declared.kinds.IntegerKind.TheVariants as integers
use Rattle.arrow_columns.specs.declared.kinds.Kind.{Kind}
use Rattle.arrow_columns.specs.declared.kinds.Kind.TheVariants.{Integer, LargeBinary, LargeUtf8, Logical}
use Rattle.logical_types.specs.declared.logical.LogicalType.{LogicalType}
use Rattle.logical_types.specs.declared.logical.LogicalType.TheVariants as logical
use Rattle.record_rows.specs.declared.schema.ColumnType.{ColumnType}
use Rattle.record_rows.specs.declared.schema.Kind.{Kind as WordKind}
use Rattle.record_rows.specs.declared.schema.Kind.TheVariants as words
use Rattle.vortex_dtype.specs.declared.ptype.PType.{PType}
use Rattle.vortex_dtype.specs.declared.ptype.PType.TheVariants.{U8, U16, U32, U64, I8, I16, I32, I64}

-- the kind of integers of a type
abbrev pub integer_kind_of : PType → IntegerKind
integer_kind_of U8 = integers.U8
integer_kind_of U16 = integers.U16
integer_kind_of U32 = integers.U32
integer_kind_of U64 = integers.U64
integer_kind_of I8 = integers.I8
integer_kind_of I16 = integers.I16
integer_kind_of I32 = integers.I32
integer_kind_of I64 = integers.I64

-- the format of the values of a logical type: decimals have 128 bits each
abbrev pub format_of : LogicalType → Format
format_of logical.Float64 = formats.Float64
format_of logical.Float32 = formats.Float32
format_of (logical.Decimal d) = formats.Decimal Bits128 d.precision d.scale
format_of logical.Date = formats.Date32
format_of (logical.Time unit) = formats.Time unit
format_of (logical.Timestamp unit is_zoned) = formats.Timestamp unit is_zoned

-- the kind by what words are: strings and bytes have offsets of 64 bits
abbrev pub kind_by : WordKind → Kind
kind_by (words.Integer ptype) = Integer (integer_kind_of ptype)
kind_by words.Utf8 = LargeUtf8
kind_by words.Binary = LargeBinary
kind_by words.Bytes = LargeBinary
kind_by (words.Logical l) = Logical (format_of l)

-- the kind that a column of records is written as
abbrev pub kind_of_column : ColumnType → Kind
kind_of_column c = kind_by c.kind
