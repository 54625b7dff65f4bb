-- The words of this crate's clauses, from one place.
pub use Rattle.std.specs.Cmp.Lexicographic.{slice_cmp}
pub use Rattle.std.specs.List.{list_any, starts_with}
pub use Rattle.std.specs.Option.{option_copied}
pub use Rattle.std.specs.Ordering.{int_cmp, is_eq, is_ne, nat_cmp}
pub use Rattle.std.specs.Prelude.{not}
pub use Rattle.std.specs.Str.{bytes_eq}
pub use Rattle.arrow_columns.specs.Columns.{HasRows, IsByteColumn, end_of, offset_in}
pub use Rattle.arrow_columns.specs.Integers.{number_of, width_of, width_of_item}
pub use Rattle.arrow_columns.specs.Offsets.{IsRow, bytes_between, bytes_of_offset, offset_of}
pub use Rattle.arrow_columns.specs.Spans.{AreBytes, beginning}
pub use Rattle.arrow_columns.specs.declared.kinds.ItemKind.TheVariants.{Integer}
pub use Rattle.arrow_columns.specs.declared.tested_rows.Rows.TheVariants.{Booleans, Bytes, Integers, Strings, Values}
pub use Rattle.column_cells.specs.Contents.{HasTexts, contents_of_rows}
pub use Rattle.logical_types.specs.Storing.{decimal_bytes}
pub use Rattle.truth_bitmaps.specs.Truths.{truth_at, under_null}
pub use Rattle.vortex_cells.specs.Cells.{cell_of}
pub use Rattle.vortex_filter.specs.Formula.{compare_truth, null_truth}
pub use Rattle.vortex_filter.specs.Operators.{holds}
pub use Rattle.vortex_filter.specs.PatternTests.{are_like, pattern_truth}
pub use Rattle.vortex_filter.specs.Prefixes.{begins, begins_truth, prefix_truth}
pub use Rattle.vortex_value.specs.Order.{truth_cmp}
pub use Rattle.vortex_value.specs.Values.Scalars.{scalar_content}
pub use Rattle.column_kernels.specs.Needles.{is_alike}
pub use Rattle.column_kernels.specs.Rows.{HaveRowsTo, HaveTexts, bool_in, bytes_in, cell_of_row, cells_of_row, content_compared, content_of_row, number_in, option_of, stores_bytes, text_in}
pub use Rattle.column_kernels.specs.Truths.{AreTruths, boolean_cell, byte_cell, compared, if_value, is_valid_row, number_cell, tested}
