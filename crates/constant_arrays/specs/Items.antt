-- Constant arrays as columns that are written out, and what is asked of the rows of a column one by one.
use Rattle.std.specs.Prelude.{ℕ, ◌≤◌, List, [], ◌∷◌, map, replicate, Result, Ok, Err}
use Rattle.vortex_dtype.specs.TypeTree.{TypeTree}
use Rattle.vortex_dtype.specs.declared.error.VortexError.{VortexError}
use Rattle.vortex_value.specs.declared.scalars.Scalar.{Scalar}
use Rattle.vortex_cells.specs.Cells.{Cell, cell_of}
use Rattle.vortex_filter.specs.Formula.{Formula, compare_truth, truth}
use Rattle.vortex_filter.specs.declared.operator.CompareOperator.{CompareOperator}
use Rattle.vortex_filter.specs.declared.truth.Truth.{Truth}
use Rattle.vortex_row.specs.Columns.{key_with}
use Rattle.vortex_row.specs.declared.options.SortOptions.{SortOptions}
use Rattle.constant_arrays.specs.declared.array.ConstantArray.{ConstantArray}

-- the scalar of each row
abbrev pub scalar_of : ConstantArray → Scalar
scalar_of a = a.scalar

-- how many rows there are
abbrev pub len_of : ConstantArray → ℕ
len_of a = a.len

-- the array written out: the cell of each row
abbrev pub items : ConstantArray → List Cell
items a = replicate (len_of a) (cell_of (scalar_of a))

-- the range does not end before it starts, nor behind so many rows
pub record IsRange (start end rows : ℕ) : Type 0 where
  pub ordered : start ≤ end
  pub within : end ≤ rows

-- the answer for an array as that for its scalar
abbrev pub scalar_answer : Result ConstantArray VortexError → Result Scalar VortexError
scalar_answer (Ok a) = Ok (scalar_of a)
scalar_answer (Err e) = Err e

-- ---- what is asked of the rows of a column, one by one

-- a cell cast to a type: the content stays
abbrev pub cast_cell : TypeTree → Cell → Cell
cast_cell t x = record { typed = t; content = x.content }

abbrev pub casts : TypeTree → List Cell → List Cell
casts t xs = map (cast_cell t) xs

-- how each row stands to a literal
abbrev pub comparisons : CompareOperator → Cell → List Cell → List Truth
comparisons op literal xs = map (λ x. compare_truth op x literal) xs

-- what a formula says of each row of a table whose only column has these cells
abbrev pub truths : Formula → List Cell → List Truth
truths f xs = map (λ x. truth f (x ∷ [])) xs

-- the key of each row, in a column that is sorted so
abbrev pub row_keys : SortOptions → List Cell → List (List ℕ)
row_keys o xs = map (λ x. key_with o x.content) xs
