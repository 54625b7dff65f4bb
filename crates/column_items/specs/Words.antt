-- The words of this crate's clauses, from one place.
pub use Rattle.std.specs.Option.{option_copied}
pub use Rattle.float_storage.specs.Storage.{IsStorage, bits_of_storage, storage_of_bits}
pub use Rattle.logical_types.specs.Storing.{decimal_bytes}
pub use Rattle.arrow_columns.specs.Formats.{IsSound, IsValueOf, items_of}
pub use Rattle.arrow_columns.specs.Integers.{number_of, width_of_item}
pub use Rattle.column_cells.specs.Contents.{stored_content}
pub use Rattle.vortex_value.specs.Values.Content.{content, string, whole}
pub use Rattle.vortex_value.specs.Values.RawOf.{raw_of, value_tree}
pub use Rattle.column_items.specs.Codes.{kind_of_code}
pub use Rattle.column_items.specs.Items.{FitsItem, bytes_of_number, bytes_of_stored}
pub use Rattle.column_items.specs.Numbers.{HasContentOf, StoresNumber}
