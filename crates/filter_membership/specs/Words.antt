-- The words of this crate's clauses, from one place.
pub use Rattle.std.specs.Option.{option_copied}
pub use Rattle.vortex_cells.specs.Cells.{cell_of}
pub use Rattle.vortex_filter.specs.Formula.{Formula, formula}
pub use Rattle.filter_membership.specs.Filters.{filter_at, literal_hash, may_contain_in, may_have_by}
pub use Rattle.filter_membership.specs.Predicates.{AreMembersOf, Covers, MatchesNoRow, asked, asked_by, list_outcomes, may_have, may_have_one, members_outcomes, one_of, predicate_tree}
