-- The words of this crate's clauses, from one place.
pub use Rattle.std.specs.Option.{option_copied}
pub use Rattle.std.specs.Vec.{vec_capacity, vec_len}
pub use Rattle.vortex_dtype.specs.TypeOf.{type_of}
pub use Rattle.vortex_value.specs.TypesWithin.{HasNoVariant}
pub use Rattle.vortex_value.specs.Values.Scalars.{IsValid, scalar_content, scalar_type}
pub use Rattle.vortex_row.specs.Held.{IsHeld}
pub use Rattle.vortex_row.specs.Keys.{key}
pub use Rattle.vortex_row.specs.Steps.{Appends, HasRoom}
pub use Rattle.vortex_row.specs.Typed.{HasKey}
pub use Rattle.statistics_bytes.specs.Encoding.{AreOf, EncodingsAreApart, EncodingsTellStatistics, IsEncodingAs, IsHeldBound, IsHeldKnown, bound_bytes, bound_flags, count_bytes, flags, encoding, known_count_bytes}
pub use Rattle.statistics_bytes.specs.EncodingAnswers.{HasValues, IsBadEncoding, IsFirstWrong, ReadsAs, ReadsInto, ReadsRight, SayVariant, SaysBound}
pub use Rattle.statistics_bytes.specs.EncodingSteps.{AreBoundKeys, AreBoundsRead, HasNoVariantIn, HasNoVariants, IsBadBound, IsBoundKey, IsBoundRead, IsBoundReadAt, IsCountsRead, IsRefusal, IsWrongStart, ascending, counts_length, flags_byte, has_bound, is_there, state_at, state_bits}
pub use Rattle.statistics_bytes.specs.Pieces.{IsBadPiece, Says, nothing_known}
pub use Rattle.vortex_statistics.specs.Statistics.{HasValidBounds, IsValidBound, known, known_bound}
pub use Rattle.vortex_statistics.specs.declared.error.StatisticsError.TheVariants.{BadBytes, HasVariant, OutOfMemory}
