-- Where a literal stands among the values of a column's type, and what a test of the column with it is.
use Rattle.std.specs.Prelude.{◌≡◌, ℕ, Bool, true, false, List, [], ◌∷◌, Option, Some, None, option_map}
use Rattle.std.specs.declared.cmp.Ordering.{Ordering}
use Rattle.std.specs.declared.cmp.Ordering.TheVariants.{Equal, Less}
use Rattle.vortex_dtype.specs.TypeTree.{TypeTree, Same}
use Rattle.vortex_value.specs.Order.{order}
use Rattle.vortex_value.specs.Values.Content.{Content}
use Rattle.vortex_value.specs.declared.scalars.Scalar.{Scalar}
use Rattle.vortex_cells.specs.Cells.{Cell, cell_of, is_null_cell}
use Rattle.vortex_filter.specs.declared.literals.Position.{Position}
use Rattle.vortex_filter.specs.declared.literals.Position.TheVariants as positions
use Rattle.vortex_filter.specs.declared.operator.CompareOperator.{CompareOperator}
use Rattle.vortex_filter.specs.declared.operator.CompareOperator.TheVariants.{Eq, NotEq, Gt, Gte, Lt, Lte}
use Rattle.vortex_filter.specs.declared.truth.Truth.TheVariants.{Unknown}
use Rattle.vortex_filter.specs.Formula.{Formula, constant, comparison, null_test, membership, range, prefix_test, both, either, negation, cell_at, truth}
use Rattle.vortex_filter.specs.Operators.{holds}
use Rattle.vortex_filter.specs.Truths.{truth_of}

-- where a literal stands among the values of a type
pub data PositionTree : Type 0 where
  -- at a value of the type, or at its null
  exactly : Cell → PositionTree
  -- between this value of the type and the next
  just_above : Cell → PositionTree
  -- at what each value of the type stands to in this way: below all of them, or above
  lacking : Ordering → PositionTree

abbrev pub position_tree : Position → PositionTree
position_tree (positions.Exactly x) = exactly (cell_of x)
position_tree (positions.JustAbove x) = just_above (cell_of x)
position_tree (positions.Lacking o) = lacking o

-- the scalar that stands there or just below, if there is one
abbrev pub scalars_of : Position → List Scalar
scalars_of (positions.Exactly x) = x ∷ []
scalars_of (positions.JustAbove x) = x ∷ []
scalars_of (positions.Lacking o) = []

-- the scalar that stands there, if there is one
abbrev pub scalars_at : Position → List Scalar
scalars_at (positions.Exactly x) = x ∷ []
scalars_at _ = []

-- the scalar of a comparison with what stands just above it
abbrev pub scalars_below : CompareOperator → Scalar → List Scalar
scalars_below Eq x = []
scalars_below NotEq x = []
scalars_below _ x = x ∷ []

-- the scalars of a comparison with what stands there
abbrev pub compared_scalars : CompareOperator → Position → List Scalar
compared_scalars op (positions.Exactly x) = x ∷ []
compared_scalars op (positions.JustAbove x) = scalars_below op x
compared_scalars op (positions.Lacking o) = []

-- the same for each value of the column, and Unknown for a null
abbrev pub for_values : Bool → ℕ → Formula
for_values true k = either (negation (null_test k)) (constant Unknown)
for_values false k = both (null_test k) (constant Unknown)

-- what a comparison is with what stands between a value and the next: no value is equal to it
abbrev pub comparison_above : ℕ → CompareOperator → Cell → Formula
comparison_above k Eq x = for_values false k
comparison_above k NotEq x = for_values true k
comparison_above k Gt x = comparison k Gt x
comparison_above k Gte x = comparison k Gt x
comparison_above k Lt x = comparison k Lte x
comparison_above k Lte x = comparison k Lte x

-- what a comparison with a literal is
abbrev pub comparison_of : ℕ → CompareOperator → PositionTree → Formula
comparison_of k op (exactly x) = comparison k op x
comparison_of k op (just_above x) = comparison_above k op x
comparison_of k op (lacking o) = for_values (holds op o) k

-- what a test is whether a cell lies between two literals
abbrev pub range_of : ℕ → PositionTree → PositionTree → Formula
range_of k (exactly x) (exactly y) = range k x y
range_of k lower upper = both (comparison_of k Gte lower) (comparison_of k Lte upper)

-- the cells of the type among literals
abbrev pub cells_of : List PositionTree → List Cell
cells_of [] = []
cells_of (exactly x ∷ ps) = x ∷ cells_of ps
cells_of (just_above x ∷ ps) = cells_of ps
cells_of (lacking o ∷ ps) = cells_of ps

-- whether a cell is one of several literals, of which the type has these: of none, the same for each value
abbrev pub member_of : ℕ → List Cell → Formula
member_of k [] = for_values false k
member_of k (x ∷ xs) = membership k (x ∷ xs)

-- whether a cell is one of the literals
abbrev pub member_among : ℕ → List PositionTree → Formula
member_among k [] = membership k []
member_among k (p ∷ ps) = member_of k (cells_of (p ∷ ps))

-- whether a cell begins with a literal, if the type has it
abbrev pub prefix_of : ℕ → PositionTree → Option Formula
prefix_of k (exactly x) = Some (prefix_test k x)
prefix_of k (just_above x) = None
prefix_of k (lacking o) = None

-- ---- what a value says

-- a value that is equal to what stands just below a literal is below the literal
abbrev pub settled : Ordering → Ordering
settled Equal = Less
settled o = o

-- how a value stands to a literal
abbrev pub standing : Content → PositionTree → Option Ordering
standing c (exactly x) = order c x.content
standing c (just_above x) = option_map settled (order c x.content)
standing c (lacking o) = Some o

-- the literal is no null, and stands at a value of the type, just above one, or where the type has none
abbrev pub StandsIn : TypeTree → PositionTree → Type 0
StandsIn t (exactly x) = Same t x.typed × (is_null_cell x ≡ false)
StandsIn t (just_above x) = Same t x.typed × (is_null_cell x ≡ false)
StandsIn t (lacking o) = Unit {0}

-- Of a value that stands so to the literal, a comparison says whether it holds of such values.
abbrev pub ComparisonsStand : Type 0
ComparisonsStand = (t : TypeTree) (k : ℕ) (op : CompareOperator) (p : PositionTree) (row : List Cell) (o : Ordering) → StandsIn t p → Same t (cell_at row k).typed
    → is_null_cell (cell_at row k) ≡ false → standing (cell_at row k).content p ≡ Some o → truth (comparison_of k op p) row ≡ truth_of (holds op o)

-- Of a null it is Unknown.
abbrev pub NullsAreUnknown : Type 0
NullsAreUnknown = (k : ℕ) (op : CompareOperator) (p : PositionTree) (row : List Cell) → is_null_cell (cell_at row k) ≡ true → truth (comparison_of k op p) row ≡ Unknown
