-- Filters as formulas, and their truth on a row.
use Rattle.std.specs.Prelude.{ℕ, ◌||◌, Bool, List, fold, map, slice_get, Option, Some, None, option_map, if◌then◌else◌}
use Rattle.std.specs.Borrow.{Bor}
use Rattle.std.specs.Option.{option_copied}
use Rattle.std.specs.declared.cmp.Ordering.{Ordering}
use Rattle.like_patterns.specs.declared.case.Case.{Case}
use Rattle.like_patterns.specs.Patterns.{Part}
use Rattle.vortex_value.specs.declared.scalars.Scalar.{Scalar}
use Rattle.vortex_cells.specs.Cells.{Cell, cell_of, cell_or_null, cell_order, is_null_cell}
use Rattle.vortex_filter.specs.declared.filter.Filter.{Filter, fold-Filter}
use Rattle.vortex_filter.specs.declared.filter.Filter.TheOpen.{Filter-F}
use Rattle.vortex_filter.specs.declared.operator.CompareOperator.{CompareOperator}
use Rattle.vortex_filter.specs.declared.operator.CompareOperator.TheVariants.{Eq, Gte, Lte}
use Rattle.vortex_filter.specs.declared.truth.Truth.{Truth}
use Rattle.vortex_filter.specs.declared.truth.Truth.TheVariants.{False, Unknown}
use Rattle.vortex_filter.specs.Operators.{holds}
use Rattle.vortex_filter.specs.PatternTests.{pattern_truth}
use Rattle.vortex_filter.specs.Prefixes.{prefix_truth}
use Rattle.vortex_filter.specs.Truths.{is_true, truth_and, truth_not, truth_of, truth_or}

-- what contracts see of a filter: a constant, a test of a column, or a connective
pub data Formula : Type 0 where
  constant : Truth → Formula
  comparison : ℕ → CompareOperator → Cell → Formula
  null_test : ℕ → Formula
  membership : ℕ → List Cell → Formula
  range : ℕ → Cell → Cell → Formula
  prefix_test : ℕ → Cell → Formula
  pattern_test : ℕ → Case → List Part → Formula
  both : Formula → Formula → Formula
  either : Formula → Formula → Formula
  negation : Formula → Formula

abbrev pub formula_step : Filter-F Formula → Formula
formula_step (Filter-F.Constant t) = constant t
formula_step (Filter-F.Compare column op literal) = comparison column op (cell_of literal)
formula_step (Filter-F.IsNull column) = null_test column
formula_step (Filter-F.In column literals) = membership column (map cell_of literals.items)
formula_step (Filter-F.Between column lower upper) = range column (cell_of lower) (cell_of upper)
formula_step (Filter-F.StartsWith column prefix) = prefix_test column (cell_of prefix)
formula_step (Filter-F.Like column pattern case) = pattern_test column case pattern
formula_step (Filter-F.And f g) = both f.value g.value
formula_step (Filter-F.Or f g) = either f.value g.value
formula_step (Filter-F.Not f) = negation f.value

-- a filter's formula
abbrev pub formula : Filter → Formula
formula = fold-Filter Formula formula_step

-- ---- truth

-- the cell of a row in column k: a null if the row ends before it
abbrev pub cell_at : List Cell → ℕ → Cell
cell_at row k = cell_or_null (slice_get row k)

-- a cell that is lent, or none: then a null
abbrev pub lent_cell : Option (Bor Scalar) → Cell
lent_cell x = cell_or_null (option_map cell_of (option_copied x))

-- whether a cell is null: never Unknown
abbrev pub null_truth : Cell → Truth
null_truth x = truth_of (is_null_cell x)

-- True or False by the order, Unknown if there is none
abbrev pub order_truth : CompareOperator → Option Ordering → Truth
order_truth op None = Unknown
order_truth op (Some o) = truth_of (holds op o)

-- how a cell stands to a literal: Unknown if one of the two is null
abbrev pub compare_truth : CompareOperator → Cell → Cell → Truth
compare_truth op x literal = if (is_null_cell x || is_null_cell literal) then Unknown else order_truth op (cell_order x literal)

-- whether a cell is equal to one of the literals: an Or of comparisons, of none False
abbrev pub member_truth : Cell → List Cell → Truth
member_truth x literals = fold (λ t literal. truth_or t (compare_truth Eq x literal)) False literals

-- whether a cell is from the one literal up to the other
abbrev pub range_truth : Cell → Cell → Cell → Truth
range_truth x lower upper = truth_and (compare_truth Gte x lower) (compare_truth Lte x upper)

-- what the formula says of a row
abbrev pub truth : Formula → List Cell → Truth
truth (constant t) row = t
truth (comparison k op literal) row = compare_truth op (cell_at row k) literal
truth (null_test k) row = null_truth (cell_at row k)
truth (membership k literals) row = member_truth (cell_at row k) literals
truth (range k lower upper) row = range_truth (cell_at row k) lower upper
truth (prefix_test k prefix) row = prefix_truth (cell_at row k) prefix
truth (pattern_test k case parts) row = pattern_truth case parts (cell_at row k)
truth (both p q) row = truth_and (truth p row) (truth q row)
truth (either p q) row = truth_or (truth p row) (truth q row)
truth (negation p) row = truth_not (truth p row)

-- whether the row matches: only if the formula is True there
abbrev pub is_match : Formula → List Cell → Bool
is_match f row = is_true (truth f row)
