-- The words of this crate's clauses, from one place.
pub use Rattle.csv_columns.specs.Setups.{IsSchema, setup_value}
pub use Rattle.filter_sql.specs.ColumnNames.{column_tree, column_trees}
pub use Rattle.filter_sql.specs.OwnNames.{IsFilterOf}
pub use Rattle.record_search.specs.Refused.{RefusesRecord}
pub use Rattle.record_search.specs.Searched.{is_refused, matches_record, records_under}
pub use Rattle.vortex_filter.specs.Formula.{formula}
pub use Rattle.vortex_filter.specs.Named.{AreMarked}
pub use Rattle.zone_index.specs.Encoding.{block_value, root_value}
pub use Rattle.zone_index.specs.Errors.{IfRefused, IsOfRecord, TellsOffset, TellsOneOf, before_refused}
pub use Rattle.zone_scans.specs.Found.{IsFoundBefore, IsSearched}
pub use Rattle.zone_scans.specs.Planning.{is_read}
pub use Rattle.zone_scans.specs.Ranges.{AreJoined, IsFarZone, bytes_of}
pub use Rattle.file_search.specs.Plans.{AreBlocksFor, AreFarBlocks, AreNamedBlocks, IsPlanFor, IsRead, NoBlocksFor, NoPlanFor, NotRead, NothingIn, error_of_blocks, error_of_ranges}
pub use Rattle.file_search.specs.Sought.{IsSetupOf, IsSought, IsUnread, IsUnsought, NoFilterFor, planned_rows, tree_of_named, trees_of_named}
pub use Rattle.file_search.specs.declared.sought.SoughtError.TheVariants.{NoMemory, NoSetup}
