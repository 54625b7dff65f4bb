-- The words of this crate's clauses, from one place.
pub use Rattle.std.specs.Vec.{vec_capacity, vec_len}
pub use Rattle.vortex_dtype.specs.TypeOf.{type_of}
pub use Rattle.vortex_value.specs.TypesWithin.{HasNoVariant}
pub use Rattle.vortex_statistics.specs.Statistics.{HasValidBounds, known}
pub use Rattle.vortex_statistics.specs.declared.error.StatisticsError.TheVariants.{BadBytes, HasVariant, OutOfMemory}
pub use Rattle.statistics_bytes.specs.Encoding.{AreOf, IsHeldKnown}
pub use Rattle.statistics_bytes.specs.EncodingAnswers.{ReadsAs, ReadsInto}
pub use Rattle.statistics_bytes.specs.EncodingSteps.{HasNoVariants}
pub use Rattle.statistics_bytes.specs.Pieces.{nothing_known}
pub use Rattle.named_statistics.specs.Heads.{first_parameter, head_of, id_byte, second_parameter}
pub use Rattle.named_statistics.specs.Laws.{NamesTellTypes, StatisticsTellNames}
pub use Rattle.named_statistics.specs.Named.{IsBadNamedEncoding, IsBadNamedPiece, IsNamedEncodingAs, IsOffsetWithin, IsWrongHead, ReadsNamed, SaysNamed, SaysNamedBound, SaysNamedVariant, named_encoding, refusal_from}
