-- The words of clauses, from one place: those of this crate's definitions, and those of the crates below and of std that its
-- files share.
pub use Rattle.arrayvec.specs.ArrayVec.{array_vec_len}
pub use Rattle.std.proofs.Common.{rules}
pub use Rattle.std.specs.Cmp.{IsEquivalence}
pub use Rattle.std.specs.Cmp.Rules.{comparing, hashing}
pub use Rattle.std.specs.Ordering.{as_partial_cmp, int_cmp, int_eq, on}
pub use Rattle.vortex_dtype.specs.PTypes.{byte_width_of}
pub use Rattle.vortex_dtype.specs.declared.ptype.PType.{PType}
pub use Rattle.vortex_pvalue.specs.Bytes.{bytes_of}
pub use Rattle.vortex_pvalue.specs.Conversions.{Converts, IsNumber}
pub use Rattle.vortex_pvalue.specs.Numbers.{InRange, greatest_of, least_of, wrapped}
pub use Rattle.vortex_pvalue.specs.PTypeLaws.{AgreesWithHash, AgreesWithOrder, EqualsByNumber, RangeIsInterval, ReinterpretsBack, TestIsRange, WrappedExists, WrappedIsUnique, other_sign}
pub use Rattle.vortex_pvalue.specs.Whole.{ptype_of, pvalue_text, whole_of}
