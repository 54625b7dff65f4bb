-- The words of this crate's clauses, from one place.
pub use Rattle.std.specs.Vec.{vec_capacity, vec_len}
pub use Rattle.vortex_dtype.specs.TypeOf.{type_of}
pub use Rattle.vortex_dtype.specs.TypeTree.{IsFlat}
pub use Rattle.vortex_value.specs.CastAnswers.{AnswersCast}
pub use Rattle.vortex_value.specs.Values.Scalars.{IsMadeOf, IsValid, scalar_content, scalar_raw, scalar_type}
pub use Rattle.vortex_cells.specs.Cells.{cell_of, is_null_cell}
pub use Rattle.vortex_filter.specs.Formula.{compare_truth, formula, truth}
pub use Rattle.vortex_filter.specs.Makes.{IsBare}
pub use Rattle.vortex_filter.specs.Named.{IsNamed}
pub use Rattle.vortex_row.specs.Columns.{key_with}
pub use Rattle.vortex_row.specs.Keys.{key}
pub use Rattle.vortex_row.specs.Typed.{HasKey}
pub use Rattle.vortex_statistics.specs.Merging.{nothing}
pub use Rattle.vortex_statistics.specs.Observing.{MayTakeMemory, observed}
pub use Rattle.vortex_statistics.specs.Statistics.{AreComplete, HasValidBounds, known}
pub use Rattle.constant_arrays.specs.Folding.{IsNamedOther, SaysTheSame, decided, folded}
pub use Rattle.constant_arrays.specs.Items.{IsRange, casts, comparisons, items, len_of, row_keys, scalar_answer, scalar_of, truths}
pub use Rattle.constant_arrays.specs.declared.error.ConstantArrayError.TheVariants.{IndexOutOfBounds, OutOfMemory, RangeOutOfBounds}
