-- The words of clauses, from one place: those of this crate's definitions, and those of std that its files share.
pub use Rattle.std.proofs.Common.{ap, rules}
pub use Rattle.std.proofs.lemmas.Cmp.{on_equiv}
pub use Rattle.std.specs.Cmp.{partial_equiv_from_equiv}
pub use Rattle.std.specs.Cmp.Lexicographic.{lists_equiv, nat_list_cmp_total, nat_list_eq_equiv, pointwise, slice_cmp, texts_po, texts_ties}
pub use Rattle.std.specs.Cmp.Rules.{hashing}
pub use Rattle.std.specs.Iterator.{YieldsFirst, item_count}
pub use Rattle.std.specs.Ordering.{nat_cmp, on}
pub use Rattle.std.specs.Slice.Iter.{iter_rest}
pub use Rattle.std.specs.Str.{IsCharBoundary, bytes_eq}
pub use Rattle.std.specs.Vec.{vec_capacity, vec_len}
pub use Rattle.vortex_dtype.specs.BytesAsText.{IsTextOf}
pub use Rattle.vortex_dtype.specs.Copies.{Adds}
pub use Rattle.vortex_dtype.specs.Feeds.{ext_feed, fields_feed, map_feed, nullability_feed, tree_feed, trees_feed, variant_number, variants_feed}
pub use Rattle.vortex_dtype.specs.Memory.{GivesOrNoMemory}
pub use Rattle.vortex_dtype.specs.Names.{ids_left, names_in}
pub use Rattle.vortex_dtype.specs.PTypes.{byte_width_of, is_signed_ptype, ptype_text}
pub use Rattle.vortex_dtype.specs.Parts.{IsProjection, element_in, extension_in, field_index, fields_in, is_binary_type, is_extension_type, is_map_type, is_union_type, is_utf8_type, map_in, nullable_extension, type_named, variants_in}
pub use Rattle.vortex_dtype.specs.Refusals.{RefusesExactly, RefusesOrNoMemory, key_cause, misses_a_name, project_cause, repeats, variants_cause}
pub use Rattle.vortex_dtype.specs.TypeEquality.{ext_eq, fields_eq, map_eq, nullability_eq, tree_eq, trees_eq, variants_eq}
pub use Rattle.vortex_dtype.specs.TypeOf.{dtype_trees, ext_of, extension_type_of, fields_of, lists_of, map_of, map_type_of, struct_type_of, type_of, union_type_of, variants_of}
pub use Rattle.vortex_dtype.specs.TypeTree.{IsFlat, Same, TypeTree, as_nullable, binary_type, bool_type, erase, fixed_size_list_type, integer_type, is_nullable, keep, list_type, map_type, nullability_of, trim, trim_all, utf8_type}
pub use Rattle.vortex_dtype.specs.declared.error.VortexError.TheVariants.{OutOfMemory}
pub use Rattle.vortex_dtype.specs.declared.nullability.Nullability.TheVariants.{NonNullable}
pub use Rattle.vortex_dtype.specs.declared.ptype.PType.TheVariants.{I16, I32, I64, I8, U16, U32, U64, U8}
pub use Rattle.vortex_dtype.specs.declared.types.FieldLists.{size-FieldLists}
pub use Rattle.vortex_dtype.specs.declared.types.StructFields.{size-StructFields}
