-- The words of this crate's clauses, from one place.
pub use Rattle.std.specs.Fmt.{signed_decimal}
pub use Rattle.std.specs.Io.KnownBytes.{Appends, IsAtEnd}
pub use Rattle.hex.specs.Hex.{decode_sized, encode_lower, hex_digit_value}
pub use Rattle.vortex_dtype.specs.PTypes.{ptype_text}
pub use Rattle.vortex_dtype.specs.TypeTree.{binary_type, integer_type}
pub use Rattle.vortex_dtype.specs.declared.nullability.Nullability.TheVariants.{NonNullable}
pub use Rattle.vortex_pvalue.specs.Conversions.{IsNumber}
pub use Rattle.vortex_pvalue.specs.Numbers.{InRange}
pub use Rattle.vortex_pvalue.specs.Whole.{ptype_of, pvalue_text, whole_of}
pub use Rattle.vortex_value.specs.Casts.{IsInteger}
pub use Rattle.vortex_value.specs.Values.Content.{whole}
pub use Rattle.vortex_value.specs.Values.RawKinds.{IsBytesValue, IsIntegerValue}
pub use Rattle.vortex_value.specs.Values.RawTree.{raw_bytes, raw_integer}
pub use Rattle.vortex_value.specs.Values.Scalars.{IsValid, scalar_content, scalar_raw, scalar_type}
pub use Rattle.rows.specs.Commands.{asked_by}
pub use Rattle.rows.specs.Digits.{byte_of_digits}
pub use Rattle.rows.specs.FaultTexts.{fault_text}
pub use Rattle.rows.specs.Fronts.{FirstSays, FirstSaysNone, IsNameEnd, LeadingDigits}
pub use Rattle.rows.specs.Grammar.{bound, bound_operands, bound_request, cast, cast_operands, cast_request, hex_named, request_in}
unfoldable pub use Rattle.rows.specs.Grammar.{natural_named, number_named, ptype_named, size_named}
pub use Rattle.rows.specs.Lines.{lines_of, words_of}
pub use Rattle.rows.specs.Reading.{GaveSome}
pub use Rattle.rows.specs.Rows.{bound_text, cast_text, request_text, row_text, rows_of}
pub use Rattle.rows.specs.Streams.{GoesOn}
pub use Rattle.rows.specs.declared.commands.Side.TheVariants.{Lower, Upper}
pub use Rattle.rows.specs.declared.faults.RowsError.TheVariants.{Memory}
