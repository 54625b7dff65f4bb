-- The words of clauses on views, from one place.
pub use Rattle.vortex_leaves.specs.BoolLaws.{bool_order}
pub use Rattle.vortex_leaves.specs.BoolViews.{IsBoolViewOf, IsValidBoolView, bool_view_cmp, bool_view_content, bool_view_raw, bool_view_type}
pub use Rattle.vortex_leaves.specs.NumberLaws.{number_order}
pub use Rattle.vortex_leaves.specs.PrimitiveViews.{AreOfOneType, IsNumberViewOf, IsOutcome, IsValidNumberView, number_view_content, number_view_ptype, number_view_raw, number_view_type, view_arithmetic, view_number}
pub use Rattle.vortex_leaves.specs.TextLaws.{bytes_order, text_order}
pub use Rattle.vortex_leaves.specs.TextViews.{bytes_ref, bytes_view_content, bytes_view_raw, bytes_view_type, text_ref, text_view_content, text_view_raw, text_view_type}
