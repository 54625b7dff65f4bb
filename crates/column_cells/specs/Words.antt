-- The words of this crate's clauses, from one place.
pub use Rattle.arrow_columns.specs.Checked.{AreRowsOf}
pub use Rattle.arrow_columns.specs.Errors.{IsErrorOf}
pub use Rattle.std.specs.Option.{option_copied}
pub use Rattle.vortex_dtype.specs.TypeOf.{ext_of, type_of}
pub use Rattle.vortex_dtype.specs.TypeTree.{Same, binary_type, bool_type, integer_type, utf8_type}
pub use Rattle.vortex_dtype.specs.declared.error.VortexError.TheVariants.{OutOfMemory}
pub use Rattle.vortex_dtype.specs.declared.nullability.Nullability.TheVariants.{Nullable}
pub use Rattle.vortex_pvalue.specs.Numbers.{InRange}
pub use Rattle.vortex_value.specs.Validity.{Valid}
pub use Rattle.vortex_value.specs.Values.Content.{content, string, text, truth, whole}
pub use Rattle.vortex_value.specs.Values.RawOf.{raw_of, value_tree}
pub use Rattle.vortex_value.specs.Values.Scalars.{IsValid, scalar_content, scalar_type}
pub use Rattle.arrow_columns.specs.Formats.{IsSound, IsValueOf}
pub use Rattle.vortex_dtype.specs.Words.{GivesOrNoMemory}
pub use Rattle.logical_scalars.specs.Stored.{logical_tree, raw_storage, storage_tree}
pub use Rattle.logical_types.specs.Extensions.{FitsStorage}
pub use Rattle.column_cells.specs.Contents.{HasTexts, IsLongContent, TakesMemory, content_or_null, contents_of_column, contents_of_rows, stored_content}
pub use Rattle.column_cells.specs.Laws.{ContentsAreOfType}
pub use Rattle.column_cells.specs.Types.{HasLogicalType, HasParts, IsExtensionOver, IsLogical, decimal_storage, decimal_tree, ptype_of_kind, storage_of_format, type_of_column, type_of_format, type_of_kind, type_of_rows}
