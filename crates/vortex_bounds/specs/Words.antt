-- The words of this crate's clauses, from one place.
pub use Rattle.std.specs.Char.{IsScalar, len_utf8}
pub use Rattle.std.specs.Cmp.Lexicographic.{slice_cmp}
pub use Rattle.std.specs.Ordering.{nat_cmp}
pub use Rattle.vortex_dtype.specs.Memory.{GivesOrNoMemory}
pub use Rattle.vortex_dtype.specs.TypeTree.{TypeTree, binary_type, nullability_of, utf8_type}
pub use Rattle.vortex_dtype.specs.declared.error.VortexError.TheVariants.{OutOfMemory, WrongKind}
pub use Rattle.vortex_dtype.specs.declared.nullability.Nullability.{Nullability}
pub use Rattle.vortex_value.specs.Order.{order}
pub use Rattle.vortex_value.specs.Values.Content.{content}
pub use Rattle.vortex_value.specs.Values.RawTree.{RawTree, absent, raw_bytes, raw_text}
pub use Rattle.vortex_value.specs.Values.Scalars.{IsMadeOf, IsValid, scalar_raw, scalar_type}
pub use Rattle.vortex_bounds.specs.Increments.{HandsBack, IsOfNoNext}
pub use Rattle.vortex_bounds.specs.Laws.{BoundsAreComputed, BoundsAreUnique}
pub use Rattle.vortex_bounds.specs.Strings.{Below, HasNoUpper, IsLower, IsString, IsUpper, NotAbove, next_string}
pub use Rattle.vortex_bounds.specs.Texts.{EndsWith, HasNoNext, HasNoNextOfWidth, HasNoTextUpper, IsLast, IsStuck, IsSuccessor, IsSuccessorOfLength, IsTextLower, IsTextUpper}
pub use Rattle.vortex_bounds.specs.Truncation.{IsLowerAnswer, IsTypeOfKind, IsUpperAnswer, MayHold}
