-- What a filter that fits the columns says of rows of the columns' types.
use Rattle.std.specs.Prelude.{◌≡◌, ◌⊎◌, ◌↔◌, ℕ, true, List, None, Some, slice_get}
use Rattle.vortex_dtype.specs.TypeTree.{TypeTree, binary_type, bool_type, extension_type, integer_type, utf8_type}
use Rattle.vortex_value.specs.Laws.HasContent.{HasContent}
use Rattle.vortex_value.specs.Order.{order}
use Rattle.vortex_cells.specs.Cells.{Cell, is_null_cell}
use Rattle.vortex_filter.specs.declared.operator.CompareOperator.{CompareOperator}
use Rattle.vortex_filter.specs.declared.truth.Truth.TheVariants.{Unknown}
use Rattle.vortex_filter.specs.Checking.{FitsColumns}
use Rattle.vortex_filter.specs.Formula.{Formula, cell_at, comparison, truth}
use Rattle.vortex_filter.specs.Rows.{IsRowOf, content_truth}

-- truth values, integers, strings or bytes, also as the storage of an extension
abbrev pub IsPlainType : TypeTree → Type 0
IsPlainType (bool_type n) = Unit {0}
IsPlainType (integer_type k n) = Unit {0}
IsPlainType (utf8_type n) = Unit {0}
IsPlainType (binary_type n) = Unit {0}
IsPlainType (extension_type id metadata u) = IsPlainType u
IsPlainType _ = ⊥

-- A comparison that fits is Unknown of a row exactly if the cell or the literal is null, or the two have no order.
abbrev pub UnknownWithoutOrder : Type 0
UnknownWithoutOrder = (columns : List TypeTree) (row : List Cell) (k : ℕ) (op : CompareOperator) (x : Cell) → FitsColumns columns (comparison k op x) → IsRowOf columns row
    → (truth (comparison k op x) row ≡ Unknown) ↔ ((is_null_cell (cell_at row k) ≡ true) ⊎ ((is_null_cell x ≡ true) ⊎ (order (cell_at row k).content x.content ≡ None)))

-- In a column of a plain type it is Unknown exactly if the cell or the literal is null, if the literal is one of its type.
abbrev pub UnknownForNulls : Type 0
UnknownForNulls = (columns : List TypeTree) (row : List Cell) (k : ℕ) (op : CompareOperator) (x : Cell) (t : TypeTree) → FitsColumns columns (comparison k op x) → IsRowOf columns row
    → slice_get columns k ≡ Some t → IsPlainType t → HasContent x.typed x.content
    → (truth (comparison k op x) row ≡ Unknown) ↔ ((is_null_cell (cell_at row k) ≡ true) ⊎ (is_null_cell x ≡ true))

-- A filter that fits compares contents alone.
abbrev pub FittingComparesContents : Type 0
FittingComparesContents = (columns : List TypeTree) (f : Formula) (row : List Cell) → FitsColumns columns f → IsRowOf columns row → truth f row ≡ content_truth f row
