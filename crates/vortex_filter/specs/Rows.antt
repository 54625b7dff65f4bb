-- Rows whose cells are of the types of the columns, and what a formula says of them by contents alone.
use Rattle.std.specs.Prelude.{◌≡◌, ℕ, List, map, Some, slice_get}
use Rattle.vortex_dtype.specs.TypeTree.{TypeTree, utf8_type, Same}
use Rattle.vortex_dtype.specs.declared.nullability.Nullability.TheVariants.{Nullable}
use Rattle.vortex_value.specs.Laws.HasContent.{HasContent}
use Rattle.vortex_cells.specs.Cells.{Cell}
use Rattle.vortex_filter.specs.declared.truth.Truth.{Truth}
use Rattle.vortex_filter.specs.Formula.{Formula, constant, comparison, null_test, membership, range, prefix_test, pattern_test, both, either, negation, truth}

-- the cell is of the type up to nullability, and its own type has its content
pub record IsCellOf (t : TypeTree) (x : Cell) : Type 0 where
  pub same : Same t x.typed
  pub has : HasContent x.typed x.content

-- each cell that stands in a column is of the column's type; the row may end early
abbrev pub IsRowOf : List TypeTree → List Cell → Type 0
IsRowOf columns row = (k : ℕ) (t : TypeTree) (x : Cell) → slice_get columns k ≡ Some t → slice_get row k ≡ Some x → IsCellOf t x

-- ---- contents alone

-- the cell with its type forgotten: all such cells are of one type, the one that patterns are for
abbrev pub untyped_cell : Cell → Cell
untyped_cell x = record { typed = utf8_type Nullable; content = x.content }

-- the formula with the types of its literals forgotten
abbrev pub untyped : Formula → Formula
untyped (constant t) = constant t
untyped (comparison k op x) = comparison k op (untyped_cell x)
untyped (null_test k) = null_test k
untyped (membership k xs) = membership k (map untyped_cell xs)
untyped (range k x y) = range k (untyped_cell x) (untyped_cell y)
untyped (prefix_test k p) = prefix_test k (untyped_cell p)
untyped (pattern_test k case parts) = pattern_test k case parts
untyped (both f g) = both (untyped f) (untyped g)
untyped (either f g) = either (untyped f) (untyped g)
untyped (negation f) = negation (untyped f)

-- what the formula says of a row if contents are compared, whatever their types are
abbrev pub content_truth : Formula → List Cell → Truth
content_truth f row = truth (untyped f) (map untyped_cell row)
