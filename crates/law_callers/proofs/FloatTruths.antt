-- What a comparison says of two values of one logical type.
use Rattle.std.proofs.Common.{◌≡◌, ◌∙◌, Bool, true, false, not, ℤ, Some, ap, refl}
use Rattle.std.proofs.lemmas.Bool.{false≢true}
use Rattle.std.specs.Ordering.{int_cmp}
use Rattle.vortex_value.specs.Values.Content.{content}
use Rattle.vortex_value.specs.Values.Scalars.{scalar_order}
use Rattle.vortex_value.specs.declared.scalars.Scalar.{Scalar}
use Rattle.vortex_cells.specs.Cells.{cell_of, is_null_cell, is_null_content}
use Rattle.logical_scalars.specs.Stored.{Holds}
use Rattle.logical_types.specs.declared.logical.LogicalType.TheVariants.{Float64}
use Rattle.vortex_filter.specs.declared.operator.CompareOperator.{CompareOperator}
use Rattle.vortex_filter.specs.declared.truth.Truth.TheVariants.{True}
use Rattle.vortex_filter.specs.Formula.{compare_truth, order_truth}
use Rattle.vortex_filter.specs.Operators.{holds}
use Rattle.vortex_filter.specs.Truths.{truth_of}

-- a zone that can be skipped is one that may not match
pub turned : (b : Bool) → not b ≡ true → b ≡ false
turned true h = absurd (false≢true h)
turned false h = refl

a_float : (z : ℤ) (x : Scalar) → Holds Float64 z x → is_null_cell (cell_of x) ≡ false
a_float z x h = ap (λ v. is_null_content (content v)) h.value

module _ (op : CompareOperator) (x y : Scalar) (a b : ℤ) (first : Holds Float64 a x) (second : Holds Float64 b y) (sorts : scalar_order x y ≡ Some (int_cmp a b)) where
  says : compare_truth op (cell_of x) (cell_of y) ≡ truth_of (holds op (int_cmp a b))
  says = rw (a_float a x first, a_float b y second) (ap (order_truth op) sorts)

  -- it does not hold where it is not True
  pub not_held : (compare_truth op (cell_of x) (cell_of y) ≡ True → ⊥) → holds op (int_cmp a b) ≡ false
  not_held unlike = by_test (holds op (int_cmp a b)) refl
    where
      by_test : (t : Bool) → holds op (int_cmp a b) ≡ t → holds op (int_cmp a b) ≡ false
      by_test true e = absurd (unlike (says ∙ ap truth_of e))
      by_test false e = e
