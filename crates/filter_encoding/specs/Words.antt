-- The words of this crate's clauses, from one place.
pub use Rattle.vortex_dtype.specs.TypeOf.{type_of}
pub use Rattle.vortex_value.specs.Equality.{HasNoTyped}
pub use Rattle.vortex_value.specs.Size.{capped}
pub use Rattle.vortex_value.specs.TypesWithin.{HasNoVariant}
pub use Rattle.vortex_value.specs.Values.Scalars.{IsValid, scalar_content, scalar_type}
pub use Rattle.vortex_row.specs.Held.{AreBytes, IsHeld}
pub use Rattle.vortex_row.specs.Keys.{key}
pub use Rattle.vortex_cells.specs.Cells.{cell_of}
pub use Rattle.statistics_bytes.specs.EncodingSteps.{ascending}
pub use Rattle.vortex_filter.specs.FilterLiterals.{AreValid, literals_of}
pub use Rattle.vortex_filter.specs.Formula.{formula}
pub use Rattle.filter_encoding.specs.Answers.{HasNoValue, HasVersion, IsFirstWrong, IsEncoding, ReadsAs}
pub use Rattle.filter_encoding.specs.Encoding.{CanBeWritten, EncodingsAreApart, FirstAmong, FirstIn, HasByte, HasEncoding, HasValues, IsLogicallyValid, IsNoValueAt, IsPlainExtension, IsVersion, IsHeldCell, IsLiteral, IsPlain, IsPlainCell, IsWritten, Nests, Prepared, byte_string, encoding, encoding_in, extension_bytes, has_extended, is_extended, is_extension, integer_code, literal_bytes, node_bytes, null_code, operator_byte, parts_of, prepared, truth_byte, type_byte, type_bytes, version_of}
pub use Rattle.filter_encoding.specs.Lists.{AreListed, AreSo, Fits, count_bytes, each_bytes, listed}
pub use Rattle.filter_encoding.specs.Steps.{Appends, Begins, IsFound, IsNoValueOf, IsNode, IsNodeEncoding, IsRefused, MayBegin, Passes, ReadsBehind, ReadsBoth, ReadsByte, ReadsBytes, ReadsEncoding, ReadsKey, ReadsText, ReadsType, Writes, head_byte, plain_at, type_at}
pub use Rattle.filter_encoding.specs.Strings.{IsEncodingOf, IsStuck, Reads, left}
pub use Rattle.filter_encoding.specs.declared.error.FilterEncodingError.TheVariants.{BadBytes, NoEncoding, NotAValue, OutOfMemory}
