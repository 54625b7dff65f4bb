-- What a column of each kind has, and its cells.
use Rattle.std.specs.Prelude.{◌≡◌, ◌≢◌, ℕ, ℤ, ◌+◌, ◌*◌, ◌^◌, ◌==◌, ◌<◌, ◌≤◌, if◌then◌else◌, Bool, List, [], ◌∷◌, length, Option, Some, None, replicate, slice_get}
use Rattle.arrow_columns.specs.Bitmaps.{HasBits, bit_of}
use Rattle.arrow_columns.specs.Cells.{cells_from}
use Rattle.arrow_columns.specs.Integers.{item_at, number_of, width_of, width_of_item}
use Rattle.arrow_columns.specs.Formats.{IsValueOf, items_of}
use Rattle.arrow_columns.specs.Kinds.{kind_with}
use Rattle.arrow_columns.specs.declared.formats.Format.{Format}
use Rattle.arrow_columns.specs.declared.kinds.Kind.{Kind}
use Rattle.arrow_columns.specs.Offsets.{AreRows, bytes_between, bytes_of_offset, offset_at}
use Rattle.arrow_columns.specs.declared.columns.Column.{Column}
use Rattle.arrow_columns.specs.declared.kinds.IntegerKind.{IntegerKind}
use Rattle.arrow_columns.specs.declared.kinds.ItemKind.{ItemKind}
use Rattle.arrow_columns.specs.declared.kinds.ItemKind.TheVariants.{Integer}
use Rattle.arrow_columns.specs.declared.offset_width.OffsetWidth.{OffsetWidth}

-- how many rows columns have: as many as the first one says
abbrev pub rows_in : List Column → ℕ
rows_in [] = 0
rows_in (column ∷ columns) = column.length

-- the same rows, which may begin anywhere if there is none: then they begin with the buffers
abbrev pub with_start : Column → Column
with_start column = if column.length == 0 then record column { offset = 0 } else column

-- the row after its last one, by its place in the buffers
abbrev pub end_of : Column → ℕ
end_of column = column.offset + column.length

-- its rows have numbers, and bits of a bitmap, if there is one
abbrev pub HasRows : Column → Type 0
HasRows column = (end_of column < 2 ^ 64) × HasBits column.validity.now (end_of column)

-- its kind, if the codes are of one
abbrev pub kind_in : Column → Option Kind
kind_in column = kind_with column.kind column.precision column.scale

-- integers: there is an item for each row
abbrev pub HasIntegers : IntegerKind → Column → Type 0
HasIntegers kind column = end_of column * width_of kind ≤ length column.values.now

abbrev pub IsIntegerColumn : IntegerKind → Column → Type 0
IsIntegerColumn kind column = HasRows column × HasIntegers kind column

-- the cells of items of so many bytes each, and of those as wide as the kind's
abbrev pub cells_of_width : ℕ → ItemKind → Column → List (Option ℤ)
cells_of_width width kind column = cells_from column.validity.now (λ i. number_of kind (item_at width column.values.now i)) column.offset column.length

abbrev pub integer_cells : IntegerKind → Column → List (Option ℤ)
integer_cells kind column = cells_of_width (width_of kind) (Integer kind) column

-- items of any kind: there is one for each row
abbrev pub HasItems : ItemKind → Column → Type 0
HasItems kind column = end_of column * width_of_item kind ≤ length column.values.now

abbrev pub IsItemColumn : ItemKind → Column → Type 0
IsItemColumn kind column = HasRows column × HasItems kind column

abbrev pub item_cells : ItemKind → Column → List (Option ℤ)
item_cells kind column = cells_of_width (width_of_item kind) kind column

-- values of a logical type: the number of each row is of a value
abbrev pub logical_cells : Format → Column → List (Option ℤ)
logical_cells format column = item_cells (items_of format) column

abbrev pub IsValueRow : Format → Column → ℕ → Type 0
IsValueRow format column row = (z : ℤ) → slice_get (logical_cells format column) row ≡ Some (Some z) → IsValueOf format z

abbrev pub AreValuesBefore : Format → Column → ℕ → Type 0
AreValuesBefore format column end = (row : ℕ) → row < end → IsValueRow format column row

-- booleans: there is a bit for each row
abbrev pub HasBooleans : Column → Type 0
HasBooleans column = end_of column ≤ 8 * length column.values.now

abbrev pub IsBooleanColumn : Column → Type 0
IsBooleanColumn column = HasRows column × HasBooleans column

abbrev pub boolean_cells : Column → List (Option Bool)
boolean_cells column = cells_from column.validity.now (bit_of column.values.now) column.offset column.length

-- strings and bytes: there is an offset for each row and one more, unless there is no row; and each row is one
abbrev pub HasOffsets : OffsetWidth → Column → Type 0
HasOffsets width column = column.length ≢ 0 → (end_of column + 1) * bytes_of_offset width ≤ length column.offsets.now

abbrev pub offset_in : OffsetWidth → Column → ℕ → ℕ
offset_in width column = offset_at width column.offsets.now

abbrev pub AreRowsBefore : OffsetWidth → Column → ℕ → Type 0
AreRowsBefore width column row = AreRows width column.values.now (offset_in width column) column.offset (column.offset + row)

abbrev pub IsByteColumn : OffsetWidth → Column → Type 0
IsByteColumn width column = HasRows column × HasOffsets width column × AreRowsBefore width column column.length

abbrev pub byte_cells : OffsetWidth → Column → List (Option (List ℕ))
byte_cells width column = cells_from column.validity.now (bytes_between column.values.now (offset_in width column)) column.offset column.length

-- nulls alone
abbrev pub null_cells : {X : Type 0} → Column → List (Option X)
null_cells column = replicate column.length None
