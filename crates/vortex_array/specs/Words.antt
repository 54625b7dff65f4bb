-- The words of this crate's clauses, from one place, and those of the calls of bounds that it passes on.
pub use Rattle.vortex_bounds.specs.Strings.{HasNoUpper, IsLower, IsUpper}
pub use Rattle.vortex_bounds.specs.Texts.{HasNoTextUpper, IsTextLower, IsTextUpper}
pub use Rattle.vortex_bounds.specs.Truncation.{IsLowerOf, IsSource, IsTypeOfKind, IsUpTo, IsUpperOf, MayHold}
pub use Rattle.vortex_dtype.specs.TypeOf.{type_of}
pub use Rattle.vortex_dtype.specs.TypeTree.{TypeTree, binary_type, bool_type, integer_type, utf8_type}
pub use Rattle.vortex_dtype.specs.declared.error.VortexError.TheVariants.{OutOfMemory}
pub use Rattle.vortex_dtype.specs.declared.nullability.Nullability.TheVariants.{NonNullable, Nullable}
pub use Rattle.vortex_dtype.specs.declared.ptype.PType.TheVariants.{U64}
pub use Rattle.vortex_value.specs.Conversions.{IsMadeValid, ShortNeverOutOfMemory, Taken, Takes, TakesCopy, as_tuple, each_taken, elements_in, given_number, given_option, given_usize, taken_bool, taken_bytes, taken_number, taken_option_bool, taken_option_bytes, taken_option_number, taken_option_text, taken_option_usize, taken_text, taken_usize, taken_vec, unless_null}
pub use Rattle.vortex_value.specs.Validity.{EachValid, Valid}
pub use Rattle.vortex_value.specs.Values.RawOf.{lent_raw, raw_of, value_trees}
pub use Rattle.vortex_value.specs.Values.RawTree.{RawTree, raw_bool, raw_bytes, raw_text, raw_tuple}
pub use Rattle.vortex_value.specs.Values.Refs.{ref_raw, ref_type}
pub use Rattle.vortex_array.specs.Conversions.{Copies, HasParts, NamesAsGiven, TakesBack, TakesOrNoMemory, given_each, given_vec, taken_from}
