-- The words of the clauses on filters, from one place.
pub use Rattle.column_cells.specs.Types.{type_at, type_of_kind}
pub use Rattle.arrow_columns.specs.Bitmaps.{bitmap_length}
pub use Rattle.filter_encoding.specs.Encoding.{parts_of, prepared}
pub use Rattle.vortex_dtype.specs.TypeOf.{type_of}
pub use Rattle.filter_sql.specs.ColumnNames.{column_tree, column_trees}
pub use Rattle.vortex_filter.specs.FilterLiterals.{AreValid, literals_of}
pub use Rattle.vortex_filter.specs.Formula.{formula}
pub use Rattle.filter_sql.specs.Parsing.{IsSqlWithin}
pub use Rattle.vortex_c.specs.FilterSql.{AreNamed, IsColumnError, IsColumnsError, IsNamed, IsPreparedFrom, IsSqlError, IsTextError, IsUnfit, SaysWhyNotPrepared, WritesEncoding, code_of_expected, code_of_mistake, encoding_depth, fault_of_words, kind_of_named, mistake_of_sql, place_of_mistake, prepared_of, status_of_sql, tree_of_kind, trees_of_kinds, types_of_kinds}
pub use Rattle.vortex_c.specs.Filters.{AreFilterOutcomes, IsFilterMask, IsEncodingOf, IsRowsError, IsZonesError, SaysWhyNoMask, SaysWhyNoOutcomes, fault_of_encoding_fault, fault_of_mask, fault_of_pieces, fault_of_rows, fault_of_zones, status_of_encoding_fault, status_of_mask, status_of_piece, status_of_rows, status_of_zones}
pub use Rattle.vortex_c.specs.EncodingAnswers.{AnswersEncoding, HasAnswer}
pub use Rattle.vortex_c.specs.declared.sql.SqlError.TheVariants.{OutOfMemory}
