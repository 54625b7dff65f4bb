-- The words that clauses cite, passed on from one place.
pub use Rattle.std.specs.Iterator.{at_most}
pub use Rattle.vortex_dtype.specs.Feeds.{tree_feed}
pub use Rattle.vortex_dtype.specs.PTypes.{byte_width_of}
pub use Rattle.vortex_dtype.specs.Refusals.{repeats}
pub use Rattle.vortex_dtype.specs.TypeOf.{map_of, map_type_of, type_of, variants_of}
pub use Rattle.vortex_dtype.specs.TypeTree.{IsNullable, Same, erase, integer_type, list_type}
pub use Rattle.vortex_leaves.specs.TextViews.{text_view_content, text_view_type}
pub use Rattle.vortex_pvalue.specs.Conversions.{IsNumber}
pub use Rattle.vortex_pvalue.specs.Numbers.{IsWrapped, greatest_of, in_range, least_of}
pub use Rattle.vortex_pvalue.specs.Whole.{ptype_of, whole_of}
pub use Rattle.vortex_value.specs.Breaches.{breaches, is_valid}
pub use Rattle.vortex_value.specs.CastAnswers.{GivesCast}
pub use Rattle.vortex_value.specs.Chains.{Runs}
pub use Rattle.vortex_value.specs.Equality.{EqualContents, HasNoTyped}
pub use Rattle.vortex_value.specs.Hashing.{typed_feed}
pub use Rattle.vortex_value.specs.Makers.{IsValidEntry}
pub use Rattle.vortex_value.specs.Reinterpretations.{ptype_in}
pub use Rattle.vortex_value.specs.Size.{capped, size_of}
pub use Rattle.vortex_value.specs.TypesWithin.{HasNoExtension, HasNoMap, HasNoVariant, UnionsHaveVariants}
pub use Rattle.vortex_value.specs.Values.Content.{content, no_contents, null, sequence}
pub use Rattle.vortex_value.specs.Values.RawOf.{value_tree}
pub use Rattle.vortex_value.specs.Values.RawTree.{absent}
pub use Rattle.vortex_value.specs.Values.Refs.{IsValidRef, ref_content}
pub use Rattle.vortex_value.specs.Values.Scalars.{IsMadeOf, IsTheOne, IsValid, scalar_content, scalar_order, scalar_raw, scalar_type}
pub use Rattle.vortex_value.specs.Zero.{is_zero_of}
pub use Rattle.vortex_views.specs.Lists.{list_ref, list_view_type}
pub use Rattle.vortex_views.specs.Maps.{map_view_raw}
pub use Rattle.vortex_views.specs.Parts.{parts_of, ref_feed}
pub use Rattle.vortex_zone.specs.Zone.{IsWithin}
