-- The law of constant arrays.
use Rattle.std.specs.Prelude.{◌≡◌, ℕ, List, [], ◌∷◌, fold, length, map, slice_range}
use Rattle.std.specs.List.{All}
use Rattle.vortex_dtype.specs.TypeTree.{TypeTree}
use Rattle.vortex_value.specs.declared.scalars.Scalar.{Scalar}
use Rattle.vortex_value.specs.Values.Scalars.{scalar_content}
use Rattle.vortex_cells.specs.Cells.{Cell, cell_of}
use Rattle.vortex_filter.specs.Formula.{Formula, compare_truth, truth}
use Rattle.vortex_filter.specs.declared.operator.CompareOperator.{CompareOperator}
use Rattle.vortex_row.specs.Columns.{key_with}
use Rattle.vortex_row.specs.declared.options.SortOptions.{SortOptions}
use Rattle.vortex_statistics.specs.Merging.{nothing}
use Rattle.vortex_statistics.specs.Observing.{observed}
use Rattle.vortex_statistics.specs.Statistics.{AreComplete, Known}
use Rattle.constant_arrays.specs.declared.array.ConstantArray.{ConstantArray}
use Rattle.constant_arrays.specs.Items.{cast_cell, items, len_of, scalar_of}

-- the scalars are the rows of the array, written out
abbrev pub IsWrittenOut : ConstantArray → List Scalar → Type 0
IsWrittenOut a xs = map cell_of xs ≡ items a

-- The array and the column answer alike: to each row of the column, what the array answers once; to the whole column, what
-- the array answers.
pub record EqualsColumn (a : ConstantArray) (xs : List Scalar) : Type 0 where
  pub rows : length xs ≡ len_of a
  pub scalars : All (λ x. cell_of x ≡ cell_of (scalar_of a)) xs
  pub slices : (b : ConstantArray) (start end : ℕ) → items b ≡ slice_range (items a) start end → IsWrittenOut b (slice_range xs start end)
  pub casts : (t : TypeTree) (b : ConstantArray) (ys : List Scalar)
      → items b ≡ map (cast_cell t) (items a) → map cell_of ys ≡ map (λ x. cast_cell t (cell_of x)) xs → IsWrittenOut b ys
  pub comparisons : (op : CompareOperator) (y : Cell) → All (λ x. compare_truth op (cell_of x) y ≡ compare_truth op (cell_of (scalar_of a)) y) xs
  pub filters : (f : Formula) → All (λ x. truth f (cell_of x ∷ []) ≡ truth f (cell_of (scalar_of a) ∷ [])) xs
  pub statistics : fold observed nothing (map cell_of xs) ≡ fold observed nothing (items a)
  pub complete : (s : Known) → AreComplete s (items a) → AreComplete s (map cell_of xs)
  pub keys : (o : SortOptions) → All (λ x. key_with o (scalar_content x) ≡ key_with o (scalar_content (scalar_of a))) xs

-- a constant array is equal to the column written out
abbrev pub ConstantsEqualColumns : Type 0
ConstantsEqualColumns = (a : ConstantArray) (xs : List Scalar) → IsWrittenOut a xs → EqualsColumn a xs
