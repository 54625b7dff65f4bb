-- The words of this crate's clauses, from one place.
pub use Rattle.arrow_columns.specs.Bitmaps.{bit_of, bitmap_length}
pub use Rattle.arrow_columns.specs.Integers.{integer_of, item_at, number_of, width_of, width_of_item}
pub use Rattle.arrow_columns.specs.declared.kinds.Kind.TheVariants.{Logical}
pub use Rattle.column_items.specs.Codes.{kind_of_code}
pub use Rattle.column_items.specs.Items.{FitsItem, bytes_of_stored}
pub use Rattle.column_items.specs.Numbers.{HasContentOf}
pub use Rattle.arrow_columns.specs.Kinds.{kind_at}
pub use Rattle.column_cells.specs.Contents.{HasTexts, content_or_null, contents_of_rows}
pub use Rattle.column_cells.specs.Types.{ptype_of_kind, type_of_kind}
pub use Rattle.column_keys.specs.Answers.{AreColumnsOfKeys, AreCountsOfKeys, IsRefusal}
pub use Rattle.column_keys.specs.Cells.{AreRowsOf, AreTyped, HaveColumn, IsPlaced, IsRowOf, key_at, key_count, raws_in, types_in}
pub use Rattle.column_keys.specs.Errors.{IsRowReadError, Refuses, RefusesKeys}
pub use Rattle.column_keys.specs.Keys.{AreRowKeys, column_length, key_of_row, keys_length, row_of}
pub use Rattle.column_keys.specs.Laws.{ColumnsComeBack, TablesComeBack}
pub use Rattle.column_keys.specs.Layout.{AreBits, AreIntegers, AreNumbers, AreStrings, IsColumnOf, IsNumberIn, bytes_in, bytes_length, contents_written, is_present, number_in, offsets_length, truth_in, values_length}
pub use Rattle.column_keys.specs.Read.{AreStored}
pub use Rattle.column_keys.specs.Tables.{AreReadFrom, AreSoundBefore, HasRow, HaveRows, IsErrorAt, IsReadFrom, IsTableError, contents_in, options_in, options_of, table_of}
pub use Rattle.arrow_columns.specs.Columns.{rows_in}
pub use Rattle.column_keys.specs.Types.{AreKinds, AreOptions, HaveTypes, IsFirstBadOptions, IsOptionsError, IsTypesError, types_of_kinds}
pub use Rattle.column_keys.specs.declared.errors.KeysError.TheVariants.{BadBytes, BadOffsets, BadOptions, BufferTooSmall, OutOfMemory, UnknownKind, WrongLength}
pub use Rattle.vortex_dtype.specs.PTypes.{byte_width_of}
pub use Rattle.vortex_dtype.specs.TypeOf.{type_of}
pub use Rattle.vortex_dtype.specs.TypeTree.{binary_type, bool_type, integer_type, null_type, utf8_type}
pub use Rattle.vortex_dtype.specs.declared.nullability.Nullability.TheVariants.{Nullable}
pub use Rattle.vortex_pvalue.specs.Bytes.{bytes_of}
pub use Rattle.vortex_pvalue.specs.Whole.{ptype_of, whole_of}
pub use Rattle.vortex_row.specs.Held.{IsWhole}
pub use Rattle.vortex_row.specs.Plain.{plain_content}
pub use Rattle.vortex_row.specs.Slots.{HasSlot, Writes}
pub use Rattle.vortex_value.specs.Size.{capped}
pub use Rattle.vortex_value.specs.Validity.{Valid}
pub use Rattle.vortex_value.specs.Values.Content.{Content, content, null, string, text, truth, whole}
pub use Rattle.vortex_value.specs.Values.RawTree.{absent}
pub use Rattle.vortex_value.specs.Values.Scalars.{scalar_content, scalar_raw}
pub use Rattle.arrow_columns.specs.Formats.{IsSound, IsValueOf, items_of}
pub use Rattle.column_cells.specs.Contents.{stored_content}
pub use Rattle.column_keys.specs.Plain.{cell_content}
