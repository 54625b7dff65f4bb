-- The words that clauses cite, passed on from one place.
pub use Rattle.vortex_leaves.specs.PrimitiveViews.{AreOfOneType}
pub use Rattle.vortex_value.specs.Values.Refs.{IsValidRef}
pub use Rattle.vortex_value.specs.Values.Scalars.{IsValid}
pub use Rattle.vortex_views.specs.Structs.{struct_ref}
