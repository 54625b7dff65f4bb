-- The words of clauses, from one place.
pub use Rattle.std.specs.Option.{option_copied, option_map}
pub use Rattle.arrow_columns.specs.Errors.{IsIntegerError}
pub use Rattle.arrow_columns.specs.Integers.{width_of}
pub use Rattle.arrow_columns.specs.Columns.{kind_in}
pub use Rattle.arrow_columns.specs.Kinds.{integer_kind_at, kind_at}
pub use Rattle.arrow_columns.specs.declared.kinds.Kind.TheVariants.{Integer}
pub use Rattle.vortex_dtype.specs.TypeTree.{binary_type, utf8_type}
pub use Rattle.vortex_dtype.specs.declared.error.VortexError.TheVariants.{OutOfMemory}
pub use Rattle.vortex_dtype.specs.declared.nullability.Nullability.TheVariants.{NonNullable}
pub use Rattle.vortex_dtype.specs.declared.ptype.PType.{PType}
pub use Rattle.vortex_pvalue.specs.Whole.{ptype_of, whole_of}
pub use Rattle.vortex_value.specs.Values.RawTree.{raw_bytes, raw_text}
pub use Rattle.vortex_bounds.specs.Strings.{HasNoUpper, IsLower, IsUpper}
pub use Rattle.vortex_bounds.specs.Texts.{HasNoTextUpper, IsTextLower, IsTextUpper}
pub use Rattle.column_cells.specs.Types.{type_of_kind}
pub use Rattle.statistics_bytes.specs.Encoding.{AreOf, IsBoundOf}
pub use Rattle.vortex_statistics.specs.Statistics.{known, known_bound}
pub use Rattle.column_keys.specs.Tables.{AreSoundBefore, IsTableError}
pub use Rattle.arrow_columns.specs.Columns.{rows_in, with_start}
pub use Rattle.column_keys.specs.declared.errors.TableError.{TableError}
pub use Rattle.column_statistics.specs.Encodings.{IsColumnEncoding}
pub use Rattle.column_statistics.specs.Items.{bytes_of_item}
pub use Rattle.vortex_c.specs.Bounds.{HasNone, IsWholeOrBest}
pub use Rattle.vortex_c.specs.ColumnAnswers.{AnswersColumn, KeepsTheRest}
pub use Rattle.vortex_c.specs.ColumnCasts.{AreKinds, IsCastRefusal, IsColumnCast, IsFrontCast, IsLeft, SaysWhyNoCast, fault_of_cast, status_of_cast}
pub use Rattle.vortex_c.specs.ColumnErrors.{place_in_column, status_of_column}
pub use Rattle.vortex_c.specs.ColumnBounds.{AreEndsText, HasEndNoText, HasValue, IsColumn, IsGreatestAt, IsLeastAt, some_where, value_at}
pub use Rattle.vortex_c.specs.EncodingAnswers.{AnswersEncoding, HasAnswer}
pub use Rattle.vortex_c.specs.Integers.{IsCastOf, IsInteger, IsNotCast, number_in, ptype_at}
pub use Rattle.vortex_c.specs.Parts.{AreParts, ArePartsAt, IsBoundTold, SaysWhyNotRead, SufficesFor, fault_of_read, status_of_read}
pub use Rattle.vortex_c.specs.RowKeys.{AreAllKeys, all_keys_length, fault_of_table, status_of_table}
pub use Rattle.column_items.specs.Codes.{kind_of_code}
pub use Rattle.column_statistics.specs.Encodings.{HasValueIn, HaveValues}
pub use Rattle.vortex_c.specs.Statistics.{IsMergedAt, SaysWhyNoEncoding, SaysWhyNotMerged, fault_of_encoding, fault_of_merge, status_of_encoding, status_of_merge}
pub use Rattle.vortex_c.specs.UpperAnswers.{AnswersUpper}
pub use Rattle.vortex_c.specs.Uppers.{bytes_of}
pub use Rattle.vortex_c.specs.Zones.{IsAnswerOfZones, may_hold_bytes}
