-- The words of the clauses of filters, from one place.
pub use Rattle.arrow_columns.specs.Bitmaps.{bitmap_length}
pub use Rattle.column_cells.specs.Contents.{HasTexts, contents_of_rows}
pub use Rattle.truth_bitmaps.specs.Truths.{truth_and, truth_at, truth_or}
pub use Rattle.vortex_cells.specs.Cells.{cell_of}
pub use Rattle.vortex_filter.specs.Formula.{cell_at, compare_truth, formula, member_truth, range_truth, truth}
pub use Rattle.column_kernels.specs.Masks.{IsMask, matching}
pub use Rattle.column_kernels.specs.Words.{AreTruths, HaveRowsTo, HaveTexts, cell_of_row, cells_of_row, option_of}
