-- The words of clauses, from one place. None of them names a view, so the views themselves cite them.
pub use Rattle.std.specs.Cmp.{IsEquivalence, partial_equiv_from_equiv}
pub use Rattle.std.specs.Iterator.{YieldsFirstBy, item_count}
pub use Rattle.std.specs.List.{zip}
pub use Rattle.vortex_dtype.specs.Laws.{AgreesWithHash}
pub use Rattle.vortex_dtype.specs.Names.{names_in}
pub use Rattle.vortex_dtype.specs.Parts.{element_in, extension_in, fields_in, is_binary_type, is_extension_type, is_map_type, is_union_type, is_utf8_type, map_in}
pub use Rattle.vortex_dtype.specs.Refusals.{RefusesExactly, RefusesOrNoMemory}
pub use Rattle.vortex_dtype.specs.TypeOf.{ext_of, fields_of, map_of, type_of, union_type_of, variants_of}
pub use Rattle.vortex_dtype.specs.TypeTree.{IsFlat, TypeTree, nullability_of, storage}
pub use Rattle.vortex_dtype.specs.declared.error.VortexError.TheVariants.{OutOfMemory}
pub use Rattle.vortex_value.specs.CastAnswers.{AnswersCast}
pub use Rattle.vortex_value.specs.Reinterpretations.{ptype_in}
pub use Rattle.vortex_value.specs.Validity.{Valid}
pub use Rattle.vortex_value.specs.Values.RawOf.{lent_raw, raw_of, union_tree, value_tree}
pub use Rattle.vortex_value.specs.Values.RawTree.{RawTree, absent, is_absent}
pub use Rattle.vortex_value.specs.Values.Refs.{IsRefOf, IsValidRef, ref_content, ref_order, ref_raw, ref_type}
pub use Rattle.vortex_value.specs.Values.Scalars.{IsMadeOf, IsValid, scalar_raw, scalar_type}
pub use Rattle.vortex_value.specs.Zero.{is_zero_of}
pub use Rattle.vortex_leaves.specs.Leaves.{GivesView, is_bool_type}
pub use Rattle.vortex_leaves.specs.RefViews.{AnswersRefView, ref_equal, ref_feed, ref_text}
pub use Rattle.vortex_leaves.specs.ViewLaws.{ref_alike, ref_equiv}
pub use Rattle.vortex_views.specs.Copies.{CopiesEntry, CopiesEntryOf, CopiesPart, CopiesPartOf, GivesCopy}
pub use Rattle.vortex_views.specs.ExtensionParts.{is_nested, is_of_kind}
pub use Rattle.vortex_views.specs.Laws.{EqualsAsViewed, OrderAgreesAsViewed}
pub use Rattle.vortex_views.specs.Parts.{AreValidParts, IsValidPart, NeedNoMemory, NeedsNoMemory, elements_of, entries_of, entry_of, is_null_or_tuple, part_or_null, parts_of, ref_entry, ref_part, scalar_entry, scalar_part, unless_null}
pub use Rattle.vortex_views.specs.StructParts.{IsProjectedType, IsProjectedValue, counts_cause, field_named, fields_within, selection_cause, struct_cast_cause, value_named}
pub use Rattle.vortex_views.specs.ViewKinds.{is_of_union, is_of_variant, is_variant_type}
