-- The words of clauses on views, from one place.
pub use Rattle.vortex_leaves.specs.BoolViews.{IsBoolViewOf}
pub use Rattle.vortex_leaves.specs.PrimitiveViews.{IsNumberViewOf}
pub use Rattle.vortex_leaves.specs.TextViews.{bytes_ref, text_ref}
pub use Rattle.vortex_views.specs.Extensions.{ext_ref, ext_view_raw, ext_view_type}
pub use Rattle.vortex_views.specs.Iterators.{GivesEachPart, YieldsCopies, entries_left, fields_left, keys_left, values_left}
pub use Rattle.vortex_views.specs.Lists.{list_ref, list_view_raw, list_view_type, viewed_list}
pub use Rattle.vortex_views.specs.Maps.{map_ref, map_view_raw, map_view_type, viewed_map}
pub use Rattle.vortex_views.specs.Structs.{struct_ref, struct_view_raw, struct_view_type, viewed_struct}
pub use Rattle.vortex_views.specs.Unions.{IsNamedUnion, child_of, chosen_name, chosen_place, chosen_type, id_of, union_ref, union_view_raw, union_view_type, viewed_union}
pub use Rattle.vortex_views.specs.Variants.{inner_of, is_inner_null, variant_ref, variant_view_raw, variant_view_type}
