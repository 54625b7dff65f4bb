-- The cells of a column: what owned and borrowed scalars both are, a type and a content.
use Rattle.std.specs.Prelude.{◌≡◌, ◌⊎◌, Bool, true, false, List, Contains, Option, Some, None, is_some}
use Rattle.std.specs.declared.cmp.Ordering.{Ordering}
use Rattle.std.specs.declared.cmp.Ordering.TheVariants.{Less, Equal}
use Rattle.vortex_dtype.specs.TypeTree.{TypeTree, null_type}
use Rattle.vortex_value.specs.Order.{typed_order}
use Rattle.vortex_value.specs.Values.Content.{Content, null}
use Rattle.vortex_value.specs.Values.Refs.{ref_content, ref_type}
use Rattle.vortex_value.specs.Values.Scalars.{scalar_content, scalar_type}
use Rattle.vortex_value.specs.declared.refs.ScalarRef.{ScalarRef}
use Rattle.vortex_value.specs.declared.scalars.Scalar.{Scalar}

-- a value of a column, or a null
pub record Cell : Type 0 where
  pub typed : TypeTree
  pub content : Content

-- what a scalar is
abbrev pub cell_of : Scalar → Cell
cell_of x = record { typed = scalar_type x; content = scalar_content x }

-- what a borrowed scalar is
abbrev pub cell_of_ref : ScalarRef → Cell
cell_of_ref x = record { typed = ref_type x; content = ref_content x }

-- a cell that need not be there: if it is not, a null
abbrev pub cell_or_null : Option Cell → Cell
cell_or_null None = record { typed = null_type; content = null }
cell_or_null (Some x) = x

-- ---- nulls and values

abbrev pub is_null_content : Content → Bool
is_null_content null = true
is_null_content _ = false

-- whether a cell is null
abbrev pub is_null_cell : Cell → Bool
is_null_cell x = is_null_content x.content

-- x is one of the cells, and no null
pub record HasValue (cells : List Cell) (x : Cell) : Type 0 where
  pub cell : Contains cells x
  pub value : is_null_cell x ≡ false

-- ---- order

-- the order of the contents, if the types are the same up to nullability; else `None`
abbrev pub cell_order : Cell → Cell → Option Ordering
cell_order x y = typed_order x.typed x.content y.typed y.content

-- the same order, from above: Less if the first cell is above the second
abbrev pub order_from_above : Cell → Cell → Option Ordering
order_from_above x y = cell_order y x

-- x compares with y, and is not past it
abbrev pub IsUpTo : (Cell → Cell → Option Ordering) → Cell → Cell → Type 0
IsUpTo cmp x y = (cmp x y ≡ Some Less) ⊎ (cmp x y ≡ Some Equal)

-- any two values of the cells have an order
abbrev pub AllCompare : List Cell → Type 0
AllCompare cells = (x y : Cell) → HasValue cells x → HasValue cells y → is_some (cell_order x y) ≡ true
