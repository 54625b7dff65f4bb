-- The laws of keys.
use Rattle.std.specs.Prelude.{◌≡◌, ℕ, List, ◌++◌, length, Some}
use Rattle.std.specs.Cmp.Lexicographic.{slice_cmp}
use Rattle.std.specs.List.{All}
use Rattle.std.specs.Ordering.{nat_cmp}
use Rattle.std.specs.declared.cmp.Ordering.{Ordering}
use Rattle.vortex_dtype.specs.TypeTree.{TypeTree}
use Rattle.vortex_value.specs.Equality.{EqualContents, HasNoTyped}
use Rattle.vortex_value.specs.Order.{order}
use Rattle.vortex_value.specs.TypesWithin.{HasNoVariant}
use Rattle.vortex_value.specs.Validity.{Valid}
use Rattle.vortex_value.specs.Values.Content.{Content, content}
use Rattle.vortex_value.specs.Values.RawTree.{RawTree}
use Rattle.vortex_value.specs.Values.Refs.{ref_content, ref_order}
use Rattle.vortex_value.specs.Values.Scalars.{IsTheOne, scalar_content, scalar_order}
use Rattle.vortex_value.specs.declared.refs.ScalarRef.{ScalarRef}
use Rattle.vortex_value.specs.declared.scalars.Scalar.{Scalar}
use Rattle.vortex_row.specs.Columns.{key_with, in_column, column_cmp, row_key, row_cmp}
use Rattle.vortex_row.specs.ContentOrder.{content_cmp}
use Rattle.vortex_row.specs.Held.{IsHeld}
use Rattle.vortex_row.specs.Keys.{key}
use Rattle.vortex_row.specs.Steps.{keys_length}
use Rattle.vortex_row.specs.declared.options.SortOptions.{SortOptions}

-- The order of keys, byte by byte, is that of the contents: of one content, of one in a column, and of rows that are as
-- long as each other.
pub record KeysAreOrdered : Type 0 where
  pub contents : (c d : Content) → IsHeld c → IsHeld d → slice_cmp nat_cmp (key c) (key d) ≡ content_cmp c d
  pub columns : (o : SortOptions) (c d : Content) → IsHeld c → IsHeld d → slice_cmp nat_cmp (key_with o c) (key_with o d) ≡ column_cmp o c d
  pub rows : (os : List SortOptions) (cs ds : List Content) → length cs ≡ length ds → All IsHeld cs → All IsHeld ds
      → slice_cmp nat_cmp (row_key os cs) (row_key os ds) ≡ row_cmp os cs ds

-- If `partial_cmp` has an order of two contents, the total order of contents is that one, and that of columns is where it
-- stands there.
pub record OrderIsContentOrder : Type 0 where
  pub contents : (c d : Content) (r : Ordering) → order c d ≡ Some r → content_cmp c d ≡ r
  pub columns : (o : SortOptions) (c d : Content) (r : Ordering) → order c d ≡ Some r → column_cmp o c d ≡ in_column o c d r
  pub scalars : (o : SortOptions) (x y : Scalar) (r : Ordering) → scalar_order x y ≡ Some r
      → column_cmp o (scalar_content x) (scalar_content y) ≡ in_column o (scalar_content x) (scalar_content y) r
  pub borrowed : (o : SortOptions) (x y : ScalarRef) (r : Ordering) → ref_order x y ≡ Some r
      → column_cmp o (ref_content x) (ref_content y) ≡ in_column o (ref_content x) (ref_content y) r

-- What begins with the keys of two contents, one of them without typed children, has one content and one rest. So no key
-- is the beginning of another, and no two contents share one; nor do two rows of the columns.
pub record KeysAreApart : Type 0 where
  pub contents : (c d : Content) (xs ys : List ℕ) → HasNoTyped c → IsHeld c → IsHeld d → key c ++ xs ≡ key d ++ ys → (c ≡ d) × (xs ≡ ys)
  pub columns : (o : SortOptions) (c d : Content) (xs ys : List ℕ) → HasNoTyped c → IsHeld c → IsHeld d
      → key_with o c ++ xs ≡ key_with o d ++ ys → (c ≡ d) × (xs ≡ ys)
  pub rows : (os : List SortOptions) (cs ds : List Content) (xs ys : List ℕ) → length cs ≡ length os → length ds ≡ length os
      → All HasNoTyped cs → All IsHeld cs → All IsHeld ds → row_key os cs ++ xs ≡ row_key os ds ++ ys → (cs ≡ ds) × (xs ≡ ys)

-- The one scalar of a type with some content, as a cast gives it, has the key of that content; and equal contents have
-- one key, whatever their types.
pub record CastsKeepKeys : Type 0 where
  pub casts : (o : SortOptions) (t : TypeTree) (c : Content) (y : Scalar) → IsTheOne t c y → key_with o (scalar_content y) ≡ key_with o c
  pub equal : (o : SortOptions) (c d : Content) → EqualContents c d → key_with o c ≡ key_with o d

-- A valid value of a type without variants has no typed child.
abbrev pub ValuesHaveNoTyped : Type 0
ValuesHaveNoTyped = (t : TypeTree) (v : RawTree) → HasNoVariant t → Valid t v → HasNoTyped (content v)

-- A key is as long under any options as in ascending order, and the key of a row as the keys of its values.
pub record KeysAreAsLong : Type 0 where
  pub columns : (o : SortOptions) (c : Content) → length (key_with o c) ≡ length (key c)
  pub rows : (os : List SortOptions) (cs : List Content) → length cs ≡ length os → length (row_key os cs) ≡ keys_length cs
