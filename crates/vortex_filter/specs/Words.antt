-- The words of this crate's clauses, from one place.
pub use Rattle.std.specs.Cmp.Lexicographic.{slice_cmp}
pub use Rattle.std.specs.List.{list_all}
pub use Rattle.std.specs.Option.{option_copied}
pub use Rattle.std.specs.Ordering.{nat_cmp}
pub use Rattle.vortex_dtype.specs.TypeOf.{type_of}
pub use Rattle.vortex_dtype.specs.TypeTree.{as_nullable}
pub use Rattle.vortex_filter.specs.Asked.{demand_of}
pub use Rattle.vortex_filter.specs.CheckSteps.{answer_behind, answer_of_both, behind, checked, checked_test, holds_strings, lacks_order, suits}
pub use Rattle.vortex_filter.specs.Checking.{FitsColumns, IsOfType, RefusesFirst, tests}
pub use Rattle.vortex_filter.specs.Formula.{both, cell_at, compare_truth, comparison, either, formula, is_match, lent_cell, member_truth, membership, negation, null_test, null_truth, pattern_test, prefix_test, range, range_truth, truth}
pub use Rattle.vortex_filter.specs.Operators.{holds}
pub use Rattle.vortex_filter.specs.Prefixes.{cell_prefix_order, prefix_truth}
pub use Rattle.vortex_filter.specs.Makes.{IsBare}
pub use Rattle.vortex_filter.specs.Truths.{truth_and, truth_not, truth_of, truth_or}
pub use Rattle.vortex_filter.specs.declared.error.FilterError.TheVariants.{OutOfMemory}
pub use Rattle.vortex_filter.specs.declared.truth.Truth.TheVariants.{True}
pub use Rattle.vortex_pvalue.specs.Numbers.{in_range}
pub use Rattle.vortex_cells.specs.Cells.{Cell, cell_of, is_null_cell}
pub use Rattle.vortex_value.specs.Equality.{same_type}
pub use Rattle.vortex_value.specs.Size.{capped}
pub use Rattle.vortex_value.specs.Values.Scalars.{IsValid, scalar_content, scalar_type}
