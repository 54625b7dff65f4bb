-- What a formula says of a row depends on the columns alone that it names.
use Rattle.std.proofs.Common.{ap, ap₂, inl, inr, refl}
use Rattle.vortex_cells.specs.Cells.{Cell}
use Rattle.vortex_filter.specs.Formula.{both, compare_truth, comparison, constant, either, member_truth, membership, negation, null_test, null_truth, pattern_test, prefix_test, range, range_truth}
use Rattle.vortex_filter.specs.Named.{NamedColumnsDecide}
use Rattle.vortex_filter.specs.PatternTests.{pattern_truth}
use Rattle.vortex_filter.specs.Prefixes.{prefix_truth}
use Rattle.vortex_filter.specs.Truths.{truth_and, truth_not, truth_or}

pub named_columns_decide : NamedColumnsDecide
named_columns_decide (constant t) xs ys h = refl
named_columns_decide (comparison k op literal) xs ys h = ap (λ (x : Cell). compare_truth op x literal) (h k refl)
named_columns_decide (null_test k) xs ys h = ap null_truth (h k refl)
named_columns_decide (membership k literals) xs ys h = ap (λ (x : Cell). member_truth x literals) (h k refl)
named_columns_decide (range k lower upper) xs ys h = ap (λ (x : Cell). range_truth x lower upper) (h k refl)
named_columns_decide (prefix_test k prefix) xs ys h = ap (λ (x : Cell). prefix_truth x prefix) (h k refl)
named_columns_decide (pattern_test k case parts) xs ys h = ap (pattern_truth case parts) (h k refl)
named_columns_decide (both p q) xs ys h = ap₂ truth_and (named_columns_decide p xs ys (λ k n. h k (inl n))) (named_columns_decide q xs ys (λ k n. h k (inr n)))
named_columns_decide (either p q) xs ys h = ap₂ truth_or (named_columns_decide p xs ys (λ k n. h k (inl n))) (named_columns_decide q xs ys (λ k n. h k (inr n)))
named_columns_decide (negation p) xs ys h = ap truth_not (named_columns_decide p xs ys h)
