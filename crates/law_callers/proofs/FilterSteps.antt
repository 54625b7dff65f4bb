-- Steps of the callers of the laws of filters.
use Rattle.std.proofs.Common.{◌≡◌, ◌↔◌, ◌⊎◌, ℕ, Bool, true, false, IsTrue, IsSome, List, map, Option, Some, None, slice_get, Result, Ok, Err, IfOk, IsOk, inl, inr, refl, sym, subst, ap, ◌∙◌, rules}
use Rattle.vortex_dtype.specs.TypeTree.{TypeTree}
use Rattle.vortex_value.specs.declared.scalars.Scalar.{Scalar}
use Rattle.vortex_value.specs.Laws.HasContent.{HasContent}
use Rattle.vortex_value.specs.Order.{order}
use Rattle.vortex_cells.specs.Cells.{Cell, cell_of, is_null_cell}
use Rattle.vortex_statistics.specs.Statistics.{AreRight, Known}
use Rattle.vortex_filter.specs.declared.error.FilterError.{FilterError}
use Rattle.vortex_filter.specs.declared.filter.Filter.{Compare, StartsWith, the_lemmas}
use Rattle.vortex_filter.specs.declared.operator.CompareOperator.{CompareOperator}
use Rattle.vortex_filter.specs.declared.operator.CompareOperator.TheVariants.{Lt}
use Rattle.filter_pruning.specs.declared.outcomes.Outcomes.{Outcomes}
use Rattle.vortex_filter.specs.declared.truth.Truth.{Truth}
use Rattle.vortex_filter.specs.declared.truth.Truth.TheVariants.{True, Unknown}
use Rattle.vortex_filter.specs.Checking.{FitsColumns}
use Rattle.filter_pruning.specs.Exactness.{AreExactBounds, ArePlainBounds, ComparisonsAreExact, ComparisonsOccur, OnSomeCell, OnSomeOf, PrefixesAreExact}
use Rattle.vortex_filter.specs.FitLaws.{FittingComparesContents, IsPlainType, UnknownForNulls, UnknownWithoutOrder}
use Rattle.vortex_filter.specs.Formula.{Formula, cell_at, compare_truth, comparison, formula, prefix_test, truth}
use Rattle.filter_pruning.specs.OutcomeSets.{allows}
use Rattle.filter_pruning.specs.Outcomes.{compare_outcomes, outcomes, prefix_outcomes}
use Rattle.vortex_filter.specs.Prefixes.{prefix_truth}
use Rattle.filter_pruning.specs.Pruning.{AreOpen, column}
use Rattle.vortex_filter.specs.Rows.{IsRowOf, untyped, untyped_cell}
use Rattle.filter_pruning.specs.Searching.{IsRightZone, Zone}

formula-Compare : (k : ℕ) (op : CompareOperator) (x : Scalar) → formula (Compare k op x) ≡ comparison k op (cell_of x)
formula-Compare k op x = search (rules, the_lemmas)

formula-StartsWith : (k : ℕ) (p : Scalar) → formula (StartsWith k p) ≡ prefix_test k (cell_of p)
formula-StartsWith k p = search (rules, the_lemmas)

-- ---- outcomes

pub outcome_of : (ss : List Known) (k : ℕ) (op : CompareOperator) (x : Scalar) (t : Truth) (o : Outcomes) (r : Bool) → o ≡ outcomes (formula (Compare k op x)) ss → r ≡ allows o t
    → r ≡ allows (compare_outcomes (slice_get ss k) op (cell_of x)) t
outcome_of ss k op x t o r e h = h ∙ ap (λ p. allows p t) (e ∙ ap (λ f. outcomes f ss) (formula-Compare k op x))

pub exact_outcome : ComparisonsAreExact → (ss : List Known) (k : ℕ) (op : CompareOperator) (x : Scalar) (t : Truth) (o : Outcomes) (r : Bool) → o ≡ outcomes (formula (Compare k op x)) ss → r ≡ allows o t
    → (s : Known) → slice_get ss k ≡ Some s → ArePlainBounds s.lower s.upper → IsTrue r ↔ OnSomeCell s (λ y. compare_truth op y (cell_of x) ≡ t)
exact_outcome law ss k op x t o r e h s there plain =
    subst (λ (b : Bool). IsTrue b ↔ OnSomeCell s (λ y. compare_truth op y (cell_of x) ≡ t)) (sym (outcome_of ss k op x t o r e h ∙ ap (λ (c : Option Known). allows (compare_outcomes c op (cell_of x)) t) there)) (law s op (cell_of x) t plain)

pub beginning : PrefixesAreExact → (ss : List Known) (k : ℕ) (p : Scalar) (r : Bool) → r ≡ (outcomes (formula (StartsWith k p)) ss).may_be_true
    → (s : Known) → slice_get ss k ≡ Some s → ArePlainBounds s.lower s.upper → IsTrue r ↔ OnSomeCell s (λ y. prefix_truth y (cell_of p) ≡ True)
beginning law ss k p r e s there plain =
    subst (λ (b : Bool). IsTrue b ↔ OnSomeCell s (λ y. prefix_truth y (cell_of p) ≡ True))
    (sym (e ∙ ap (λ f. (outcomes f ss).may_be_true) (formula-StartsWith k p) ∙ ap (λ (c : Option Known). (prefix_outcomes c (cell_of p)).may_be_true) there)) (law s (cell_of p) True plain)

-- statistics that say a null count leave not all open
right_of : (s : Known) (P : Type 0) → IsSome s.null_count → AreOpen s ⊎ P → P
right_of s P counted (inl all) = let none : false ≡ true = subst (λ (n : Option ℕ). IsSome n) all.nulls counted in absurd cc
right_of s P counted (inr right) = right

pub occurring : ComparisonsOccur → (z : Zone) → IsRightZone z → (k : ℕ) (x : Cell) (r : Bool) → r ≡ allows (compare_outcomes (slice_get z.statistics k) Lt x) True
    → (s : Known) → slice_get z.statistics k ≡ Some s → IsSome s.null_count → ArePlainBounds s.lower s.upper → AreExactBounds s.lower s.upper → is_null_cell x ≡ false
    → IsTrue r ↔ OnSomeOf (column k z.rows) (λ y. compare_truth Lt y x ≡ True)
occurring law z right k x r e s there counted plain exact value =
    subst (λ (b : Bool). IsTrue b ↔ OnSomeOf (column k z.rows) (λ y. compare_truth Lt y x ≡ True)) (sym (e ∙ ap (λ (c : Option Known). allows (compare_outcomes c Lt x) True) there))
    (law s (column k z.rows) (right_of s (AreRight s (column k z.rows)) counted (right k s there)) counted plain exact Lt x True value refl)

-- ---- rows of the columns' types

module _ (columns : List TypeTree) (row : List Cell) (k : ℕ) (op : CompareOperator) (x : Scalar) (r : Result Truth FilterError) where
  pub fits_compared : IsOk r ↔ FitsColumns columns (formula (Compare k op x)) → IsOk r ↔ FitsColumns columns (comparison k op (cell_of x))
  fits_compared fits = subst (λ f. IsOk r ↔ FitsColumns columns f) (formula-Compare k op x) fits

  pub value_compared : IfOk r (λ t. t ≡ truth (formula (Compare k op x)) row) → IfOk r (λ t. t ≡ compare_truth op (cell_at row k) (cell_of x))
  value_compared value = subst (λ f. IfOk r (λ t. t ≡ truth f row)) (formula-Compare k op x) value

  pub without_order_compared : UnknownWithoutOrder → IsRowOf columns row → IsOk r ↔ FitsColumns columns (formula (Compare k op x)) → IfOk r (λ t. t ≡ truth (formula (Compare k op x)) row)
      → IfOk r (λ t. (t ≡ Unknown) ↔ ((is_null_cell (cell_at row k) ≡ true) ⊎ ((is_null_cell (cell_of x) ≡ true) ⊎ (order (cell_at row k).content (cell_of x).content ≡ None))))
  without_order_compared law right fits value = by_result r (fits_compared fits) (value_compared value)
    where
      by_result : (r : Result Truth FilterError) → IsOk r ↔ FitsColumns columns (comparison k op (cell_of x)) → IfOk r (λ t. t ≡ compare_truth op (cell_at row k) (cell_of x))
          → IfOk r (λ t. (t ≡ Unknown) ↔ ((is_null_cell (cell_at row k) ≡ true) ⊎ ((is_null_cell (cell_of x) ≡ true) ⊎ (order (cell_at row k).content (cell_of x).content ≡ None))))
      by_result (Err d) fits e = tt
      by_result (Ok t) fits e = subst (λ u. (u ≡ Unknown) ↔ ((is_null_cell (cell_at row k) ≡ true) ⊎ ((is_null_cell (cell_of x) ≡ true) ⊎ (order (cell_at row k).content (cell_of x).content ≡ None)))) (sym e) (law columns row k op (cell_of x) (fits.0 refl) right)

  pub for_nulls_compared : UnknownForNulls → IsRowOf columns row → IsOk r ↔ FitsColumns columns (formula (Compare k op x)) → IfOk r (λ t. t ≡ truth (formula (Compare k op x)) row)
      → IfOk r (λ t. (d : TypeTree) → slice_get columns k ≡ Some d → IsPlainType d → HasContent (cell_of x).typed (cell_of x).content
      → (t ≡ Unknown) ↔ ((is_null_cell (cell_at row k) ≡ true) ⊎ (is_null_cell (cell_of x) ≡ true)))
  for_nulls_compared law right fits value = by_result r (fits_compared fits) (value_compared value)
    where
      by_result : (r : Result Truth FilterError) → IsOk r ↔ FitsColumns columns (comparison k op (cell_of x)) → IfOk r (λ t. t ≡ compare_truth op (cell_at row k) (cell_of x))
          → IfOk r (λ t. (d : TypeTree) → slice_get columns k ≡ Some d → IsPlainType d → HasContent (cell_of x).typed (cell_of x).content
          → (t ≡ Unknown) ↔ ((is_null_cell (cell_at row k) ≡ true) ⊎ (is_null_cell (cell_of x) ≡ true)))
      by_result (Err d) fits e = tt
      by_result (Ok t) fits e = λ d there plain has. subst (λ u. (u ≡ Unknown) ↔ ((is_null_cell (cell_at row k) ≡ true) ⊎ (is_null_cell (cell_of x) ≡ true))) (sym e) (law columns row k op (cell_of x) d (fits.0 refl) right there plain has)

pub same_truth : FittingComparesContents → (columns : List TypeTree) (f : Formula) (first second : List Cell) → FitsColumns columns f → IsRowOf columns first → IsRowOf columns second
    → map untyped_cell first ≡ map untyped_cell second → truth f first ≡ truth f second
same_truth law columns f first second fit right others h =
    law columns f first fit right ∙ ap (λ row. truth (untyped f) row) h ∙ sym (law columns f second fit others)
