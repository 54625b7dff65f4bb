-- The words of this crate's clauses, from one place.
pub use Rattle.std.specs.Option.{option_copied}
pub use Rattle.vortex_bounds.specs.Truncation.{IsTypeOfKind, MayHold}
pub use Rattle.vortex_value.specs.Values.RawTree.{is_absent}
pub use Rattle.vortex_value.specs.Values.Refs.{IsValidRef, ref_raw, ref_type}
pub use Rattle.vortex_value.specs.Values.Scalars.{IsValid, scalar_raw, scalar_type}
pub use Rattle.vortex_cells.specs.Cells.{Cell, cell_of, cell_of_ref, cell_order, order_from_above}
pub use Rattle.vortex_statistics.specs.Changes.{after, change_by, change_of, exact_bound, lower_change, replaces, replacing, upper_change}
pub use Rattle.vortex_statistics.specs.Kinds.{IsBestAnswer, IsCutAt, IsTruncated, kind_of}
pub use Rattle.vortex_statistics.specs.Loosening.{LooserBoundsAreRight}
pub use Rattle.vortex_statistics.specs.Merging.{AnyGroupingIsRight, AreCompleteTogether, AreRightForAll, AreRightTogether, bound_of_both, bound_order, joined, merged, nothing, outer_by, rows_of, sum_of}
pub use Rattle.vortex_statistics.specs.Observing.{IsCompleteWith, IsFlatValue, IsRightWith, MayTakeMemory, RefusesCell, SomeMayTakeMemory, observed}
pub use Rattle.vortex_statistics.specs.Statistics.{AreComplete, AreRight, HasValidBounds, IsValidBound, LeaveNoNull, LeaveNoValue, empty_statistics, known, known_bound, may_be_null, may_be_value}
pub use Rattle.vortex_statistics.specs.Truncating.{AreTruncated, HasShortBounds, IsLong, IsLongRaw, IsOutOfMemoryAt, IsTruncatedLower, IsTruncatedUpper}
pub use Rattle.vortex_statistics.specs.declared.error.StatisticsError.TheVariants.{OutOfMemory, TooManyRows}
