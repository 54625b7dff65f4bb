-- Worked cases of the definitions, each a theorem.
use Rattle.std.specs.Prelude.{◌≡◌, ℕ, pos, [], ◌∷◌, Some, None, false, true, refl, slice_get, slice_range}
use Rattle.vortex_dtype.specs.TypeTree.{integer_type}
use Rattle.vortex_dtype.specs.declared.nullability.Nullability.TheVariants.{NonNullable, Nullable}
use Rattle.vortex_dtype.specs.declared.ptype.PType.{PType}
use Rattle.vortex_dtype.specs.declared.ptype.PType.TheVariants.{I16, I32}
use Rattle.vortex_value.specs.Values.Content.{null, whole}
use Rattle.vortex_value.specs.declared.scalars.Scalar.{Scalar}
use Rattle.vortex_cells.specs.Cells.{Cell, cell_of}
use Rattle.vortex_filter.specs.Formula.{both, comparison, constant, negation, null_test}
use Rattle.vortex_filter.specs.declared.operator.CompareOperator.TheVariants.{Gt, Lt}
use Rattle.vortex_filter.specs.declared.truth.Truth.TheVariants.{Unknown, True}
use Rattle.constant_arrays.specs.declared.array.ConstantArray.{ConstantArray}
use Rattle.constant_arrays.specs.Folding.{folded}
use Rattle.constant_arrays.specs.Items.{casts, comparisons, items, row_keys, truths}

-- the array that has this scalar in so many rows
abbrev rows : Scalar → ℕ → ConstantArray
rows x n = record { scalar = x; len = n }

-- a null, and numbers of a type of integers
abbrev no_number : Cell
no_number = record { typed = integer_type I32 Nullable; content = null }

abbrev number_of : PType → ℕ → Cell
number_of kind n = record { typed = integer_type kind NonNullable; content = whole (pos n) }

abbrev number : ℕ → Cell
number n = number_of I32 n

-- ---- rows

three_rows : (x : Scalar) → items (rows x 3) ≡ cell_of x ∷ cell_of x ∷ cell_of x ∷ []
three_rows x = refl

no_rows : (x : Scalar) → items (rows x 0) ≡ []
no_rows x = refl

last_row : (x : Scalar) → slice_get (items (rows x 3)) 2 ≡ Some (cell_of x)
last_row x = refl

behind_the_last : (x : Scalar) → slice_get (items (rows x 3)) 3 ≡ None
behind_the_last x = refl

sliced : (x : Scalar) → slice_range (items (rows x 3)) 1 3 ≡ items (rows x 2)
sliced x = refl

-- ---- what is asked of them

-- the content stays
cast_to_i16 : casts (integer_type I16 NonNullable) (number 5 ∷ number 5 ∷ []) ≡ number_of I16 5 ∷ number_of I16 5 ∷ []
cast_to_i16 = refl

fives_above_three : comparisons Gt (number 3) (number 5 ∷ number 5 ∷ []) ≡ True ∷ True ∷ []
fives_above_three = refl

-- a null is neither below nor not below a number
nulls_are_unknown : truths (negation (comparison 0 Lt (number 3))) (no_number ∷ no_number ∷ []) ≡ Unknown ∷ Unknown ∷ []
nulls_are_unknown = refl

-- the table has one column
no_second_column : truths (comparison 1 Lt (number 3)) (number 2 ∷ []) ≡ Unknown ∷ []
no_second_column = refl

nulls_last : row_keys (record { descending = false; nulls_first = false }) (no_number ∷ no_number ∷ []) ≡ (255 ∷ []) ∷ (255 ∷ []) ∷ []
nulls_last = refl

keys_of_fives : row_keys (record { descending = true; nulls_first = true }) (number 5 ∷ number 5 ∷ []) ≡ (242 ∷ 250 ∷ []) ∷ (242 ∷ 250 ∷ []) ∷ []
keys_of_fives = refl

-- ---- constant columns of a table

-- the first column is constant
five_above_three : folded (true ∷ []) (number 5 ∷ []) (both (comparison 0 Gt (number 3)) (null_test 1)) ≡ both (constant True) (null_test 1)
five_above_three = refl

no_constants : folded [] (number 5 ∷ []) (comparison 0 Gt (number 3)) ≡ comparison 0 Gt (number 3)
no_constants = refl
