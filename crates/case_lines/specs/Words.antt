-- The words that clauses cite, passed on from one place.
pub use Rattle.std.specs.List.{All}
pub use Rattle.vortex_value.specs.Makers.{IsValidEntry}
pub use Rattle.vortex_value.specs.Values.Scalars.{IsValid}
