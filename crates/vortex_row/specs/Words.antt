-- The words of the contracts, from one place: those of the crates below, and of this one.
pub use Rattle.std.specs.Cmp.Lexicographic.{slice_cmp}
pub use Rattle.std.specs.Global.{Vec}
pub use Rattle.std.specs.List.{All}
pub use Rattle.std.specs.Ordering.{nat_cmp}
pub use Rattle.std.specs.Vec.{vec_capacity, vec_len}
pub use Rattle.vortex_dtype.specs.TypeOf.{as_type_trees, dtype_trees, map_of, type_of, variants_of}
pub use Rattle.vortex_dtype.specs.TypeTree.{IsNullable, binary_type, bool_type, fixed_size_list_type, integer_type, list_type, map_type, no_types, struct_type, type_then, union_type, utf8_type}
pub use Rattle.vortex_dtype.specs.declared.nullability.Nullability.TheVariants.{NonNullable}
pub use Rattle.vortex_pvalue.specs.Conversions.{IsNumber}
pub use Rattle.vortex_pvalue.specs.Numbers.{InRange}
pub use Rattle.vortex_pvalue.specs.Whole.{ptype_of, whole_of}
pub use Rattle.vortex_value.specs.Equality.{HasNoTyped}
pub use Rattle.vortex_value.specs.Size.{capped}
pub use Rattle.vortex_value.specs.TypesWithin.{HasNoVariant, HaveNoVariant}
pub use Rattle.vortex_value.specs.Validity.{FieldsValid, Valid, type_with}
pub use Rattle.vortex_value.specs.Values.Content.{content, contents}
pub use Rattle.vortex_value.specs.Values.RawOf.{lent_raw, raw_of, union_tree, value_tree, value_trees}
pub use Rattle.vortex_value.specs.Values.RawTree.{RawTree, absent, raw_integer, raw_union}
pub use Rattle.vortex_value.specs.Values.Refs.{ref_content, ref_type}
pub use Rattle.vortex_value.specs.Values.Scalars.{IsMadeOf, scalar_raw, scalar_type}
pub use Rattle.vortex_cells.specs.Variants.{has_variant, have_variant}
pub use Rattle.vortex_row.specs.Bytes.{inverted_again, inverted_byte}
pub use Rattle.vortex_row.specs.Columns.{key_with, null_byte, row_key}
pub use Rattle.vortex_row.specs.Encoders.{encoder_options, encoder_types}
pub use Rattle.vortex_row.specs.Held.{AreBytes, AreHeld, IsHeld, IsWhole}
pub use Rattle.vortex_row.specs.Keys.{big_endian, downward_key, escape, escaped, inverted, key, keys, number_bytes, truth_byte, upward_key, whole_key}
pub use Rattle.vortex_row.specs.Laws.{CastsKeepKeys, KeysAreApart, KeysAreAsLong, KeysAreOrdered, OrderIsContentOrder, ValuesHaveNoTyped}
pub use Rattle.vortex_row.specs.Plain.{plain_content}
pub use Rattle.vortex_row.specs.Slots.{HasSlot, Writes}
pub use Rattle.vortex_row.specs.Steps.{HasAppended, inverted_word, keys_length, side_byte, side_key}
pub use Rattle.vortex_row.specs.Typed.{HasKey, has_typed, have_typed}
pub use Rattle.vortex_row.specs.declared.error.RowError.TheVariants.{BadKey, HasVariant, OutOfMemory, WrongLength}
