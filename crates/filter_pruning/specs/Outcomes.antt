-- What a filter can be on the rows of a zone, by the zone's statistics.
use Rattle.std.specs.Prelude.{Bool, true, false, ◌&&◌, ◌||◌, not, List, fold, slice_get, Option, Some, None, is_some, if◌then◌else◌}
use Rattle.std.specs.Ordering.{is_some_and, is_eq, is_gt, is_lt}
use Rattle.std.specs.declared.cmp.Ordering.{Ordering}
use Rattle.vortex_value.specs.Values.Content.{Content, text, string}
use Rattle.vortex_cells.specs.Cells.{Cell, is_null_cell}
use Rattle.vortex_statistics.specs.Statistics.{Known, KnownBound, may_be_null, may_be_value}
use Rattle.vortex_filter.specs.declared.operator.CompareOperator.{CompareOperator}
use Rattle.vortex_filter.specs.declared.operator.CompareOperator.TheVariants.{Eq, Gte, Lte}
use Rattle.filter_pruning.specs.declared.outcomes.Outcomes.{Outcomes}
use Rattle.vortex_filter.specs.declared.truth.Truth.TheVariants.{False, Unknown}
use Rattle.vortex_filter.specs.Formula.{Formula, constant, comparison, null_test, membership, range, prefix_test, pattern_test, both, either, negation}
use Rattle.filter_pruning.specs.Orders.{may_fail, may_hold, orders, rules_out}
use Rattle.filter_pruning.specs.OutcomeSets.{any, only, outcomes_and, outcomes_not, outcomes_or}
use Rattle.filter_pruning.specs.PatternOutcomes.{pattern_outcomes}
use Rattle.vortex_filter.specs.Prefixes.{cell_prefix_order}

-- ---- comparisons

-- a test that is Unknown on each row, if there is one
abbrev pub unknown_outcomes : Known → Outcomes
unknown_outcomes s = record { may_be_false = false; may_be_unknown = may_be_null s || may_be_value s; may_be_true = false }

-- a comparison with a literal that is not null
abbrev pub value_outcomes : Known → CompareOperator → Cell → Outcomes
value_outcomes s op literal = record {
  may_be_false = may_be_value s && may_fail op (orders s literal);
  may_be_unknown = may_be_null s || (may_be_value s && (orders s literal).incomparable);
  may_be_true = may_be_value s && may_hold op (orders s literal);
}

-- a comparison; of the column nothing may be known
abbrev pub compare_outcomes : Option Known → CompareOperator → Cell → Outcomes
compare_outcomes None op literal = if is_null_cell literal then only Unknown else any
compare_outcomes (Some s) op literal = if is_null_cell literal then unknown_outcomes s else value_outcomes s op literal

-- an Or of comparisons, of none False
abbrev pub member_outcomes : Option Known → List Cell → Outcomes
member_outcomes s literals = fold (λ o literal. outcomes_or o (compare_outcomes s Eq literal)) (only False) literals

-- two comparisons together
abbrev pub range_outcomes : Option Known → Cell → Cell → Outcomes
range_outcomes s lower upper = outcomes_and (compare_outcomes s Gte lower) (compare_outcomes s Lte upper)

-- ---- tests for null, and for a prefix

-- a test for null
abbrev pub null_outcomes : Option Known → Outcomes
null_outcomes None = record { may_be_false = true; may_be_unknown = false; may_be_true = true }
null_outcomes (Some s) = record { may_be_false = may_be_value s; may_be_unknown = false; may_be_true = may_be_null s }

-- how the prefix stands to the beginning of a bound; `None` if the bound is not there
abbrev pub bound_prefix_order : Option KnownBound → Cell → Option Ordering
bound_prefix_order None p = None
bound_prefix_order (Some b) p = cell_prefix_order b.value p

abbrev pub is_prefix_content : Content → Bool
is_prefix_content (text bs) = true
is_prefix_content (string bs) = true
is_prefix_content _ = false

-- whether a prefix is a string or bytes, so that something can begin with it
abbrev pub is_prefix : Cell → Bool
is_prefix p = is_prefix_content p.content

-- Never: no value is of the prefix's type. The orders say how the prefix stands to the beginnings of the bounds. No value
-- begins with what is below the beginning of the lower bound, or above that of the upper one; each does if both bounds do.
abbrev pub prefix_outcomes_by : Bool → Bool → Bool → Option Ordering → Option Ordering → Outcomes
prefix_outcomes_by has_nulls has_values never lower upper = record {
  may_be_false = has_values && not (never || (is_some_and is_eq lower && is_some_and is_eq upper));
  may_be_unknown = has_nulls || (has_values && not (is_some lower || is_some upper));
  may_be_true = has_values && not (never || (is_some_and is_lt lower || is_some_and is_gt upper));
}

-- whether no value begins with the prefix, nor fails to: the prefix is neither a string nor bytes, or a bound without parts
-- is of another type
abbrev pub never_begins : Known → Cell → Bool
never_begins s p = not (is_prefix p) || (rules_out s.lower (bound_prefix_order s.lower p) || rules_out s.upper (bound_prefix_order s.upper p))

-- a test for a prefix
abbrev pub prefix_outcomes : Option Known → Cell → Outcomes
prefix_outcomes None p = if is_prefix p then any else only Unknown
prefix_outcomes (Some s) p =
    prefix_outcomes_by (may_be_null s) (may_be_value s) (never_begins s p) (bound_prefix_order s.lower p) (bound_prefix_order s.upper p)

-- ---- formulas

-- what the formula can be on the rows of a zone, by the statistics of its columns
abbrev pub outcomes : Formula → List Known → Outcomes
outcomes (constant t) ss = only t
outcomes (comparison k op literal) ss = compare_outcomes (slice_get ss k) op literal
outcomes (null_test k) ss = null_outcomes (slice_get ss k)
outcomes (membership k literals) ss = member_outcomes (slice_get ss k) literals
outcomes (range k lower upper) ss = range_outcomes (slice_get ss k) lower upper
outcomes (prefix_test k prefix) ss = prefix_outcomes (slice_get ss k) prefix
outcomes (pattern_test k case parts) ss = pattern_outcomes (slice_get ss k) case parts
outcomes (both p q) ss = outcomes_and (outcomes p ss) (outcomes q ss)
outcomes (either p q) ss = outcomes_or (outcomes p ss) (outcomes q ss)
outcomes (negation p) ss = outcomes_not (outcomes p ss)
