-- A formula with its literals cast to the types of the columns.
use Rattle.std.specs.Prelude.{◌≡◌, ◌⊎◌, pos, Bool, true, false, not, List, map, Option, Some, None, slice_get, if◌then◌else◌}
use Rattle.std.specs.Ordering.{int_cmp}
use Rattle.std.specs.declared.cmp.Ordering.{Ordering}
use Rattle.std.specs.declared.cmp.Ordering.TheVariants.{Equal}
use Rattle.vortex_dtype.specs.TypeTree.{TypeTree, Same, as_nullable, integer_type}
use Rattle.vortex_pvalue.specs.Numbers.{in_range}
use Rattle.vortex_value.specs.Casts.{CanCast}
use Rattle.vortex_value.specs.Equality.{same_type}
use Rattle.vortex_value.specs.Values.Content.{Content, whole}
use Rattle.vortex_value.specs.Values.Scalars.{IsValid, scalar_content, scalar_type}
use Rattle.vortex_value.specs.declared.scalars.Scalar.{Scalar}
use Rattle.vortex_cells.specs.Cells.{Cell, cell_of}
use Rattle.vortex_filter.specs.Extensions.{reinterprets}
use Rattle.vortex_filter.specs.Formula.{Formula, constant, comparison, null_test, membership, range, prefix_test, pattern_test, both, either, negation}
use Rattle.vortex_filter.specs.Positions.{PositionTree, exactly, lacking, comparison_of, member_among, range_of}

-- ---- one literal

-- whether the types are integer types, the content a number, and the first type does not have it
abbrev pub lacks_number : TypeTree → TypeTree → Content → Bool
lacks_number (integer_type k m) (integer_type l n) (whole z) = not (in_range k z)
lacks_number _ _ _ = false

-- whether the literal is an integer of another type than the column's, which does not have it
abbrev pub lacks : TypeTree → Cell → Bool
lacks t x = if same_type t x.typed then false else lacks_number t x.typed x.content

-- the literal as one of the column's type, made nullable: unless it is of the type, up to nullability
abbrev pub coerced_cell : TypeTree → Cell → Cell
coerced_cell t x = if same_type t x.typed then x else record { typed = as_nullable t; content = x.content }

-- the literal has a cast to the column's type, made nullable, which takes no storage for a value and no value for its storage
abbrev pub KeepsValue : TypeTree → Scalar → Type 0
KeepsValue t x = (reinterprets (scalar_type x) t (scalar_content x) ≡ false) × CanCast (scalar_type x) (as_nullable t) (scalar_content x)

-- the literal is of the column's type up to nullability; or it is valid for its own type, and an integer that the column's
-- lacks, or one with such a cast
abbrev pub IsCoercible : TypeTree → Scalar → Type 0
IsCoercible t x = Same t (scalar_type x) ⊎ (IsValid x × ((lacks t (cell_of x) ≡ true) ⊎ KeepsValue t x))

-- how each number of a type stands to one that the type lacks: as 0 does
abbrev pub side : Content → Ordering
side (whole z) = int_cmp (pos 0) z
side _ = Equal

-- where the literal stands among the values of the column's type
abbrev pub position_in : TypeTree → Cell → PositionTree
position_in t x = if lacks t x then lacking (side x.content) else exactly (coerced_cell t x)

-- by the type of the column, if it is there
abbrev pub by_column : Option TypeTree → Formula → (TypeTree → Formula) → Formula
by_column None test coerced_to = test
by_column (Some t) test coerced_to = coerced_to t

-- ---- a formula

abbrev pub coerced : List TypeTree → Formula → Formula
coerced columns (constant t) = constant t
coerced columns (comparison k op x) = by_column (slice_get columns k) (comparison k op x) (λ t. comparison_of k op (position_in t x))
coerced columns (null_test k) = null_test k
coerced columns (membership k xs) = by_column (slice_get columns k) (membership k xs) (λ t. member_among k (map (position_in t) xs))
coerced columns (range k x y) = by_column (slice_get columns k) (range k x y) (λ t. range_of k (position_in t x) (position_in t y))
coerced columns (prefix_test k p) = by_column (slice_get columns k) (prefix_test k p) (λ t. prefix_test k (coerced_cell t p))
coerced columns (pattern_test k case parts) = pattern_test k case parts
coerced columns (both f g) = both (coerced columns f) (coerced columns g)
coerced columns (either f g) = either (coerced columns f) (coerced columns g)
coerced columns (negation f) = negation (coerced columns f)
