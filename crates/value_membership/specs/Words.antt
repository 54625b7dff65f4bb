-- The words of this crate's clauses, from one place.
pub use Rattle.membership.specs.Words.{may_contain}
pub use Rattle.vortex_cells.specs.Cells.{Cell, cell_of, cell_of_ref}
pub use Rattle.vortex_row.specs.Typed.{HasKey}
pub use Rattle.vortex_row.specs.declared.error.RowError.TheVariants.{HasVariant, OutOfMemory}
pub use Rattle.vortex_value.specs.Values.Refs.{ref_content, ref_type}
pub use Rattle.value_membership.specs.Members.{HasMembers, hash_of, with_cell}
