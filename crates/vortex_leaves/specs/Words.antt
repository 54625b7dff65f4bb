-- The words of clauses, from one place. None of them names a view, so the views themselves cite them.
pub use Rattle.std.specs.Cmp.{IsEquivalence, partial_equiv_from_equiv}
pub use Rattle.vortex_dtype.specs.Laws.{AgreesWithHash}
pub use Rattle.vortex_dtype.specs.Parts.{is_binary_type, is_utf8_type}
pub use Rattle.vortex_dtype.specs.TypeOf.{type_of}
pub use Rattle.vortex_dtype.specs.TypeTree.{integer_type, nullability_of}
pub use Rattle.vortex_dtype.specs.declared.ptype.PType.{PType}
pub use Rattle.vortex_pvalue.specs.Conversions.{IsNumber}
pub use Rattle.vortex_pvalue.specs.Numbers.{InRange}
pub use Rattle.vortex_pvalue.specs.Whole.{ptype_of, whole_of}
pub use Rattle.vortex_pvalue.specs.declared.operators.NumericOperator.TheVariants.{Add, Sub}
pub use Rattle.vortex_value.specs.Equality.{EqualsByTypeAndContent, equal, same_type}
pub use Rattle.vortex_value.specs.Hashing.{typed_feed}
pub use Rattle.vortex_value.specs.Order.{typed_order}
pub use Rattle.vortex_value.specs.Reinterpretations.{ptype_in}
pub use Rattle.vortex_value.specs.Texts.{text_of}
pub use Rattle.vortex_value.specs.Validity.{Valid}
pub use Rattle.vortex_value.specs.Values.Content.{content}
pub use Rattle.vortex_value.specs.Values.RawOf.{lent_raw}
pub use Rattle.vortex_value.specs.Values.RawTree.{absent, raw_bool, raw_bytes, raw_integer, raw_text}
pub use Rattle.vortex_value.specs.Values.Refs.{IsRefOf, ref_order, ref_raw, ref_type}
pub use Rattle.vortex_value.specs.Values.Scalars.{IsMadeOf, IsValid, scalar_raw, scalar_type}
pub use Rattle.vortex_value.specs.Zero.{is_zero_of}
pub use Rattle.vortex_leaves.specs.Arithmetic.{numeric_type, outcome, within}
pub use Rattle.vortex_leaves.specs.Laws.{OrderAgrees}
pub use Rattle.vortex_leaves.specs.Leaves.{AnswersView, GivesView, is_bool_type, may_be_bytes, may_be_text, may_be_truth, opposite}
pub use Rattle.vortex_leaves.specs.Numbers.{HoldsNumber, RefusesNumber, in_ptype_of}
pub use Rattle.vortex_leaves.specs.RefViews.{AnswersRefView, bytes_cmp, ref_bytes, ref_equal, ref_feed, ref_text}
pub use Rattle.vortex_leaves.specs.ViewLaws.{ref_alike, ref_equiv, view_alike, view_equiv}
