-- The words of this crate's clauses, from one place.
pub use Rattle.arrow_columns.specs.Statistics.{AreBooleanStatisticsOf}
pub use Rattle.arrow_columns.specs.declared.kinds.Kind.TheVariants.{Integer}
pub use Rattle.column_cells.specs.Contents.{HasTexts, boolean_contents, contents_of_rows, integer_contents, value_contents}
pub use Rattle.column_cells.specs.Types.{ptype_of_kind, type_of_column, type_of_format, type_of_kind, type_of_rows}
pub use Rattle.vortex_dtype.specs.TypeTree.{bool_type, integer_type}
pub use Rattle.vortex_dtype.specs.declared.nullability.Nullability.TheVariants.{Nullable}
pub use Rattle.vortex_pvalue.specs.Numbers.{InRange}
pub use Rattle.vortex_value.specs.Values.Content.{null, whole}
pub use Rattle.vortex_value.specs.Values.Scalars.{scalar_content}
pub use Rattle.vortex_cells.specs.Cells.{cell_of}
pub use Rattle.column_items.specs.Numbers.{HasContentOf, StoresNumber}
pub use Rattle.named_statistics.specs.Named.{ReadsNamed, named_encoding}
pub use Rattle.statistics_bytes.specs.Encoding.{IsCellOf, IsHeldKnown}
pub use Rattle.statistics_bytes.specs.EncodingSteps.{HasNoVariants}
pub use Rattle.vortex_statistics.specs.Statistics.{AreRight, known, known_bound}
pub use Rattle.vortex_statistics.specs.Truncating.{HasShortBounds}
pub use Rattle.column_statistics.specs.Cells.{AreCutStatistics, HasBoundsIn, cells_of_column}
pub use Rattle.column_statistics.specs.Extremes.{AreExtremesAt, AreExtremesOf, ArePlacesOf, AreSummaryOf, AreTruthsOf, AreWholeOf, IsScalarOf}
pub use Rattle.column_statistics.specs.Errors.{IsReadable, TakeMemory, IsColumnStatisticsError}
pub use Rattle.column_statistics.specs.Encodings.{HasValueIn, HaveValues, IsColumnEncoding, IsEncodingAs, IsEncodingError, IsMergeError, IsMergedEncoding, IsReadError, fault_of_piece, read_fault}
pub use Rattle.column_statistics.specs.Items.{IsItemOf, bytes_of_item}
pub use Rattle.column_statistics.specs.Laws.{EncodingsStayRight}
pub use Rattle.vortex_dtype.specs.TypeOf.{type_of}
pub use Rattle.vortex_dtype.specs.declared.error.VortexError.TheVariants.{OutOfMemory}
pub use Rattle.arrow_columns.specs.declared.kinds.Kind.TheVariants.{Logical}
pub use Rattle.arrow_columns.specs.declared.tested_rows.Rows.TheVariants.{Values}
pub use Rattle.arrow_columns.specs.Formats.{IsSound, IsValueOf}
pub use Rattle.std.specs.Option.{option_copied}
pub use Rattle.vortex_value.specs.Values.Content.{content}
pub use Rattle.vortex_value.specs.Values.RawOf.{value_tree}
