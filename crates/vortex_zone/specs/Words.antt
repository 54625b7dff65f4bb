-- The words of this crate's clauses, from one place.
pub use Rattle.std.specs.Option.{option_copied}
pub use Rattle.vortex_dtype.specs.TypeTree.{Same}
pub use Rattle.vortex_dtype.specs.declared.error.VortexError.TheVariants.{OutOfMemory}
pub use Rattle.vortex_dtype.specs.declared.nullability.Nullability.TheVariants.{NonNullable}
pub use Rattle.vortex_value.specs.Values.Scalars.{IsValid, scalar_type}
pub use Rattle.vortex_zone.specs.Zone.{AreBoundsOf, AreBoundsOfKind, IsLongerThan, IsOfKind, LosesNothing, Stops, may_hold, refusal}
