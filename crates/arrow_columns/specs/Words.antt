-- The words of this crate's clauses, from one place.
pub use Rattle.arrow_columns.specs.Bitmaps.{HasBits, bit_of, bitmap_length, is_valid}
pub use Rattle.arrow_columns.specs.Casts.{AllFit, AreCastItems, AreCastTo, AreWritten, IsFirstUnfit, IsFirstWithout}
pub use Rattle.arrow_columns.specs.Cells.{cell_at, cells_from}
pub use Rattle.arrow_columns.specs.Checked.{AreRowsOf}
pub use Rattle.arrow_columns.specs.Columns.{AreValuesBefore, HasRows, IsByteColumn, IsItemColumn, IsValueRow, boolean_cells, byte_cells, cells_of_width, end_of, integer_cells, item_cells, kind_in, logical_cells, offset_in, rows_in, with_start}
pub use Rattle.arrow_columns.specs.Errors.{AreTextRows, IsBooleanError, IsByteError, IsErrorOf, IsIntegerError, IsItemError, IsLogicalError, IsRowsError, IsStringError, IsTextRow}
pub use Rattle.arrow_columns.specs.Formats.{IsLogicalTypeOf, IsSound, IsValueOf, decimal_format_at, decimal_items, format_at, greatest_precision, items_of, time_items, timestamp_format_at}
pub use Rattle.arrow_columns.specs.Integers.{IsOfKind, cell_of_item, integer_of, item_at, number_of, width_of, width_of_item}
pub use Rattle.arrow_columns.specs.Kinds.{integer_kind_at, kind_at, kind_with}
pub use Rattle.arrow_columns.specs.Offsets.{AreRows, GoUp, IsRow, bytes_between, bytes_of_offset, largest_offset, offset_of}
pub use Rattle.arrow_columns.specs.Ranges.{AreWithinBefore, IsFirstOutside, IsWithin}
pub use Rattle.arrow_columns.specs.Ranks.{storage_of_rank}
pub use Rattle.arrow_columns.specs.Running.{AreGathered}
pub use Rattle.arrow_columns.specs.Spans.{AreBytes, IsSpan, Widens, beginning}
pub use Rattle.arrow_columns.specs.Statistics.{AreBooleanStatisticsOf, AreByteStatisticsOf, AreStatisticsOf, NotAbove}
