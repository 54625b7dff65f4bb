-- The words of this crate's clauses, from one place.
pub use Rattle.vortex_dtype.specs.TypeOf.{dtype_trees, type_of, variants_of}
pub use Rattle.vortex_pvalue.specs.Whole.{whole_of}
pub use Rattle.vortex_value.specs.Equality.{same_type}
pub use Rattle.vortex_value.specs.TypesWithin.{HasNoVariant, HaveNoVariant}
pub use Rattle.vortex_cells.specs.Cells.{cell_of, cell_of_ref, cell_order}
pub use Rattle.vortex_cells.specs.Variants.{FirstIsByte, HasByteIds, HaveByteIds, has_variant, have_variant}
