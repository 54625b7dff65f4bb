-- The words of this crate's clauses, from one place.
pub use Rattle.arrow_columns.specs.Kinds.{kind_at}
pub use Rattle.arrow_columns.specs.declared.formats.Format.TheVariants.{Time, Timestamp}
pub use Rattle.arrow_columns.specs.declared.kinds.Kind.TheVariants.{Integer, Logical}
pub use Rattle.column_cells.specs.Types.{type_of_kind}
pub use Rattle.column_items.specs.Codes.{kind_of_code}
pub use Rattle.record_rows.specs.Cells.{column_type}
pub use Rattle.record_search.specs.Refused.{RefusesRecord, fault_at_place}
pub use Rattle.record_search.specs.Searched.{is_refused, row_cells, row_under, records_under}
pub use Rattle.vortex_dtype.specs.declared.nullability.Nullability.TheVariants.{Nullable}
pub use Rattle.vortex_filter.specs.Formula.{formula}
pub use Rattle.zone_index.specs.Errors.{IfRecordRefused, TellsRecord}
pub use Rattle.record_columns.specs.Columns.{AreColumns, AreColumnsOf, AreCountsOf, AreReady, IsColumnOf, IsCountOf, IsOneShort, IsReadyFor, IsShortFor}
pub use Rattle.record_columns.specs.Kinds.{format_of, integer_kind_of, kind_of_column}
pub use Rattle.record_columns.specs.Refused.{AreCountsIfSmall, ArePassed, AreWanted, IsRecordFault, IsRefusal, IsWantedFault, StayIfOther}
pub use Rattle.record_columns.specs.Rows.{matching_in, matching_rows}
pub use Rattle.record_columns.specs.Values.{AreValuesIn, HaveValues}
