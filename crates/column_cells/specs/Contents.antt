-- The contents of the cells of columns, row by row: null where a row is null.
use Rattle.std.specs.Prelude.{◌<◌, IsUtf8, ℤ, List, [], length, map, nat_le, Option, Some, None, replicate, if◌then◌else◌}
use Rattle.std.specs.List.{All}
use Rattle.std.specs.Option.{IfSome}
use Rattle.arrow_columns.specs.Columns.{boolean_cells, byte_cells, integer_cells, kind_in, logical_cells}
use Rattle.arrow_columns.specs.Formats.{IsSound, IsValueOf}
use Rattle.arrow_columns.specs.declared.columns.Column.{Column}
use Rattle.arrow_columns.specs.declared.formats.Format.{Format}
use Rattle.arrow_columns.specs.declared.formats.Format.TheVariants as formats
use Rattle.arrow_columns.specs.declared.kinds.IntegerKind.{IntegerKind}
use Rattle.arrow_columns.specs.declared.kinds.Kind.{Kind}
use Rattle.arrow_columns.specs.declared.kinds.Kind.TheVariants.{Binary, Boolean, Integer, LargeBinary, LargeUtf8, Logical, Null, Utf8}
use Rattle.arrow_columns.specs.declared.offset_width.OffsetWidth.{OffsetWidth}
use Rattle.arrow_columns.specs.declared.offset_width.OffsetWidth.TheVariants.{Bits32, Bits64}
use Rattle.arrow_columns.specs.declared.tested_rows.Rows.{Rows}
use Rattle.arrow_columns.specs.declared.tested_rows.Rows.TheVariants.{Booleans, Bytes, Integers, Nulls, Strings, Values}
use Rattle.logical_types.specs.Storing.{decimal_bytes}
use Rattle.vortex_dtype.specs.declared.buffer.TheConstants.{INLINE_BYTES}
use Rattle.vortex_value.specs.Values.Content.{Content, null, string, text, truth, whole}

-- the content of a cell
abbrev pub content_or_null : {X : Type 0} → (X → Content) → Option X → Content
content_or_null of_value None = null
content_or_null of_value (Some x) = of_value x

-- the contents of integers, booleans, strings and bytes
abbrev pub integer_contents : IntegerKind → Column → List Content
integer_contents kind column = map (content_or_null whole) (integer_cells kind column)

abbrev pub boolean_contents : Column → List Content
boolean_contents column = map (content_or_null truth) (boolean_cells column)

abbrev pub text_contents : OffsetWidth → Column → List Content
text_contents width column = map (content_or_null text) (byte_cells width column)

abbrev pub byte_contents : OffsetWidth → Column → List Content
byte_contents width column = map (content_or_null string) (byte_cells width column)

-- the content that stores a number: the number itself, and of decimals of more than 18 digits its 16 bytes
abbrev pub stored_content : Format → ℤ → Content
stored_content formats.Float32 z = whole z
stored_content formats.Float64 z = whole z
stored_content formats.Date32 z = whole z
stored_content (formats.Time unit) z = whole z
stored_content (formats.Timestamp unit is_zoned) z = whole z
stored_content (formats.Decimal width precision scale) z = if nat_le precision 18 then whole z else string (decimal_bytes z)

-- the contents of values of a logical type
abbrev pub value_contents : Format → Column → List Content
value_contents format column = map (content_or_null (stored_content format)) (logical_cells format column)

-- the contents of a column that can be read
abbrev pub contents_of_rows : Rows → List Content
contents_of_rows (Integers rows) = integer_contents rows.kind rows.column
contents_of_rows (Booleans rows) = boolean_contents rows.column
contents_of_rows (Strings rows) = text_contents rows.width rows.column
contents_of_rows (Bytes rows) = byte_contents rows.width rows.column
contents_of_rows (Nulls count) = replicate count null
contents_of_rows (Values rows) = value_contents rows.format rows.column

-- the contents of a column of this kind
abbrev pub contents_at : Option Kind → Column → List Content
contents_at None column = []
contents_at (Some (Integer kind)) column = integer_contents kind column
contents_at (Some Boolean) column = boolean_contents column
contents_at (Some Utf8) column = text_contents Bits32 column
contents_at (Some LargeUtf8) column = text_contents Bits64 column
contents_at (Some Binary) column = byte_contents Bits32 column
contents_at (Some LargeBinary) column = byte_contents Bits64 column
contents_at (Some Null) column = replicate column.length null
contents_at (Some (Logical format)) column = value_contents format column

-- the contents of a column, by the code of its kind
abbrev pub contents_of_column : Column → List Content
contents_of_column column = contents_at (kind_in column) column

-- each string that is no null is UTF-8, and each number of a logical type is a value of it
abbrev pub HasTexts : Rows → Type 0
HasTexts (Strings rows) = All (λ cell. IfSome cell (λ bytes. IsUtf8 bytes)) (byte_cells rows.width rows.column)
HasTexts (Values rows) = IsSound rows.format × All (λ cell. IfSome cell (IsValueOf rows.format)) (logical_cells rows.format rows.column)
HasTexts _ = Unit {0}

-- a string, or bytes, that take memory of their own
abbrev pub IsLongContent : Content → Type 0
IsLongContent (text bytes) = INLINE_BYTES < length bytes
IsLongContent (string bytes) = INLINE_BYTES < length bytes
IsLongContent _ = ⊥

-- the scalar of this content of a row takes memory: its type, or the content
abbrev pub TakesMemory : Rows → Content → Type 0
TakesMemory (Values rows) content = Unit {0}
TakesMemory _ content = IsLongContent content
