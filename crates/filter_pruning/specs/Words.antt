-- The words of this crate's clauses, from one place.
pub use Rattle.std.specs.Cmp.Lexicographic.{slice_cmp}
pub use Rattle.std.specs.Option.{option_copied}
pub use Rattle.std.specs.Ordering.{nat_cmp}
pub use Rattle.vortex_filter.specs.Formula.{both, constant, either, formula, negation}
pub use Rattle.filter_pruning.specs.Orders.{bound_order, is_plain, is_plain_bound, may_fail, may_hold, orders, orders_between, rules_out, settles}
pub use Rattle.filter_pruning.specs.OutcomeSets.{allows, any, is_only_true, only, outcomes_and, outcomes_not, outcomes_or}
pub use Rattle.filter_pruning.specs.Outcomes.{bound_prefix_order, compare_outcomes, is_prefix, member_outcomes, never_begins, null_outcomes, outcomes, prefix_outcomes, prefix_outcomes_by, range_outcomes, unknown_outcomes, value_outcomes}
pub use Rattle.filter_pruning.specs.PatternOutcomes.{bound_front_order, cell_front_order, compared_bytes, front_outcomes, is_exact, pattern_outcomes, pattern_outcomes_by}
pub use Rattle.filter_pruning.specs.Pruning.{Covers, MatchesEachRow, MatchesNoRow}
pub use Rattle.vortex_filter.specs.Makes.{IsBare}
pub use Rattle.filter_pruning.specs.Residual.{SameOnRows, conjunction, disjunction, is_constant, residual, same_truths, size, sole}
pub use Rattle.vortex_filter.specs.declared.error.FilterError.TheVariants.{OutOfMemory}
pub use Rattle.vortex_cells.specs.Cells.{cell_of, cell_order, is_null_cell, order_from_above}
pub use Rattle.vortex_statistics.specs.Statistics.{known, known_bound}
