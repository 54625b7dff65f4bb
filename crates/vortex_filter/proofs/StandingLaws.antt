-- A comparison with a literal says of a value whether it holds of values that stand so to the literal.
use Rattle.std.proofs.Common.{◌≡◌, ℕ, true, false, ◌||◌, cond, List, Option, Some, None, Ordering, Less, Equal, Greater, refl, sym, ap, ap₂, ◌∙◌, option_map}
use Rattle.vortex_dtype.specs.TypeTree.{Same}
use Rattle.vortex_value.specs.Equality.{same_type}
use Rattle.vortex_value.specs.Lemmas.EqualityLaws.{same_type-Decides}
use Rattle.vortex_value.specs.Order.{order}
use Rattle.vortex_cells.specs.Cells.{Cell, is_null_cell}
use Rattle.vortex_filter.specs.declared.operator.CompareOperator.{CompareOperator}
use Rattle.vortex_filter.specs.declared.operator.CompareOperator.TheVariants.{Eq, NotEq, Gt, Gte, Lt, Lte}
use Rattle.vortex_filter.specs.declared.truth.Truth.TheVariants.{Unknown}
use Rattle.vortex_filter.specs.Formula.{cell_at, compare_truth, order_truth, truth}
use Rattle.vortex_filter.specs.Operators.{holds}
use Rattle.vortex_filter.specs.Positions.{exactly, just_above, lacking, ComparisonsStand, NullsAreUnknown, comparison_above, settled, standing}
use Rattle.vortex_filter.specs.Truths.{truth_of}
use Rattle.vortex_filter.proofs.CoerceLaws.{settled_null, settled_value}

-- of values of one type the order decides
compared : (op : CompareOperator) (c x : Cell) (o : Ordering) → Same c.typed x.typed → is_null_cell c ≡ false → is_null_cell x ≡ false → order c.content x.content ≡ Some o → compare_truth op c x ≡ truth_of (holds op o)
compared op c x o s n m e =
    ap₂ (λ b d. cond (b || d) Unknown (order_truth op (cond (same_type c.typed x.typed) (order c.content x.content) None))) n m
    ∙ ap (λ b. order_truth op (cond b (order c.content x.content) None)) ((same_type-Decides c.typed x.typed).1 s)
    ∙ ap (order_truth op) e

-- what is below a literal just above a value, or above it, by how it stands to the value
settled_from : (r : Option Ordering) (o : Ordering) → option_map settled r ≡ Some o → (q : Ordering) × (r ≡ Some q) × (settled q ≡ o)
settled_from None o e = absurd cc
settled_from (Some q) o e = let same : settled q ≡ o = cc in (q, refl, same)

never_equal : (q : Ordering) → false ≡ holds Eq (settled q)
never_equal Less = refl
never_equal Equal = refl
never_equal Greater = refl

always_other : (q : Ordering) → true ≡ holds NotEq (settled q)
always_other Less = refl
always_other Equal = refl
always_other Greater = refl

same_above : (q : Ordering) → holds Gt q ≡ holds Gt (settled q)
same_above Less = refl
same_above Equal = refl
same_above Greater = refl

same_from : (q : Ordering) → holds Gt q ≡ holds Gte (settled q)
same_from Less = refl
same_from Equal = refl
same_from Greater = refl

same_below : (q : Ordering) → holds Lte q ≡ holds Lt (settled q)
same_below Less = refl
same_below Equal = refl
same_below Greater = refl

same_to : (q : Ordering) → holds Lte q ≡ holds Lte (settled q)
same_to Less = refl
same_to Equal = refl
same_to Greater = refl

module _ (k : ℕ) (x : Cell) (row : List Cell) (s : Same (cell_at row k).typed x.typed) (n : is_null_cell (cell_at row k) ≡ false) (m : is_null_cell x ≡ false) where
  above_says : (op : CompareOperator) (q : Ordering) → order (cell_at row k).content x.content ≡ Some q → truth (comparison_above k op x) row ≡ truth_of (holds op (settled q))
  above_says Eq q e = settled_value false k row n ∙ ap truth_of (never_equal q)
  above_says NotEq q e = settled_value true k row n ∙ ap truth_of (always_other q)
  above_says Gt q e = compared Gt (cell_at row k) x q s n m e ∙ ap truth_of (same_above q)
  above_says Gte q e = compared Gt (cell_at row k) x q s n m e ∙ ap truth_of (same_from q)
  above_says Lt q e = compared Lte (cell_at row k) x q s n m e ∙ ap truth_of (same_below q)
  above_says Lte q e = compared Lte (cell_at row k) x q s n m e ∙ ap truth_of (same_to q)

  above_stands : (op : CompareOperator) (o : Ordering) → standing (cell_at row k).content (just_above x) ≡ Some o → truth (comparison_above k op x) row ≡ truth_of (holds op o)
  above_stands op o e = let p = settled_from (order (cell_at row k).content x.content) o e in above_says op p.0 p.1 ∙ ap (λ r. truth_of (holds op r)) p.2

pub comparisons_stand : ComparisonsStand
comparisons_stand t k op (exactly x) row o i s n e = compared op (cell_at row k) x o (sym s ∙ i.0) n i.1 e
comparisons_stand t k op (just_above x) row o i s n e = above_stands k x row (sym s ∙ i.0) n i.1 op o e
comparisons_stand t k op (lacking r) row o i s n e = let same : r ≡ o = cc in settled_value (holds op r) k row n ∙ ap (λ q. truth_of (holds op q)) same

null_compared : (op : CompareOperator) (c x : Cell) → is_null_cell c ≡ true → compare_truth op c x ≡ Unknown
null_compared op c x n = ap (λ b. cond (b || is_null_cell x) Unknown (order_truth op (cond (same_type c.typed x.typed) (order c.content x.content) None))) n

above_null : (k : ℕ) (op : CompareOperator) (x : Cell) (row : List Cell) → is_null_cell (cell_at row k) ≡ true → truth (comparison_above k op x) row ≡ Unknown
above_null k Eq x row n = settled_null false k row n
above_null k NotEq x row n = settled_null true k row n
above_null k Gt x row n = null_compared Gt (cell_at row k) x n
above_null k Gte x row n = null_compared Gt (cell_at row k) x n
above_null k Lt x row n = null_compared Lte (cell_at row k) x n
above_null k Lte x row n = null_compared Lte (cell_at row k) x n

pub nulls_are_unknown : NullsAreUnknown
nulls_are_unknown k op (exactly x) row n = null_compared op (cell_at row k) x n
nulls_are_unknown k op (just_above x) row n = above_null k op x row n
nulls_are_unknown k op (lacking o) row n = settled_null (holds op o) k row n
