-- The words of this crate's clauses, from one place.
pub use Rattle.arrow_columns.specs.Bitmaps.{bit_of, bitmap_length}
pub use Rattle.vortex_dtype.specs.TypeOf.{type_of}
pub use Rattle.vortex_dtype.specs.TypeTree.{Same}
pub use Rattle.vortex_cells.specs.Cells.{cell_of}
pub use Rattle.vortex_statistics.specs.Statistics.{known}
pub use Rattle.vortex_filter.specs.Formula.{formula}
pub use Rattle.vortex_value.specs.Values.Scalars.{scalar_type}
pub use Rattle.named_statistics.specs.Heads.{head_of}
pub use Rattle.statistics_bytes.specs.Pieces.{nothing_known}
pub use Rattle.vortex_filter.specs.Named.{AreMarked}
pub use Rattle.column_cells.specs.Contents.{HasTexts, contents_of_rows}
pub use Rattle.column_cells.specs.Types.{type_of_rows}
pub use Rattle.column_kernels.specs.Masks.{IsMask, matching}
pub use Rattle.column_filters.specs.Tables.{AreColumnsOf, AreReadFrom, IsErrorAt, IsMaskError, IsReadFrom, IsReadIf, IsTableError, cells_of_columns}
pub use Rattle.column_filters.specs.Zones.{AreEnough, AreHeads, AreOthersOpen, AreOutcomes, IsBadAt, IsOutcome, IsPiece, IsSaid, NamedPiecesDecide, OutcomesCoverRows, RefusesZone, RefusesZones, fault_of_piece, outcomes_byte, piece_at}
pub use Rattle.column_filters.specs.declared.errors.MaskError.TheVariants.{OutOfMemory}
pub use Rattle.column_filters.specs.declared.errors.ZoneError.TheVariants.{BadOffsets}
