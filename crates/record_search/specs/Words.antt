-- The words of this crate's clauses, from one place.
pub use Rattle.record_rows.specs.Cells.{column_type}
pub use Rattle.record_rows.specs.Observed.{HaveTypes, SomeIsFull}
pub use Rattle.vortex_filter.specs.Formula.{formula}
pub use Rattle.vortex_cells.specs.Cells.{Cell, cell_of}
pub use Rattle.statistics_bytes.specs.Encoding.{IsHeldKnown, encoding}
pub use Rattle.vortex_statistics.specs.Statistics.{known}
pub use Rattle.zone_index.specs.Asking.{Asks}
pub use Rattle.zone_index.specs.Errors.{EndsFar, IfRecordRefused, IfRefused, TellsOffset, TellsOneOf, TellsRecord, before_refused}
pub use Rattle.zone_index.specs.Encoding.{bytes_encoding}
pub use Rattle.zone_index.specs.Sinks.{told}
pub use Rattle.zone_index.specs.Zones.{HaveSizes, IsOfZone, IsPartOfZone}
pub use Rattle.zone_index.specs.declared.errors.SearchError.TheVariants.{CutShort, TooFar, Write as FailedWrite}
pub use Rattle.record_search.specs.Answers.{AnswersCountRows, AnswersFindRows}
pub use Rattle.record_search.specs.Decoding.{columns_in, piece_in, statistics_in}
pub use Rattle.record_search.specs.Named.{AgreeAsRows}
pub use Rattle.vortex_filter.specs.Named.{AreMarked}
pub use Rattle.record_search.specs.Refused.{RefusesRecord, fault_at_place}
pub use Rattle.record_search.specs.Searched.{AreAllComplete, AreAllValid, AreDescribed, AreDescribedFully, AreRowsOf, DescribeRows, DescribeRowsFully, IsFullRowIndex, IsRowIndex, ObservesRow, PushesCut, columns_of, decision_by, decision_of, has_row, is_refused, longer_under, matches_record, nulls_under, records_under, row_cells, row_under, rows_under}
