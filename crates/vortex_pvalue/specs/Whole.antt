-- What an integer value stands for: its PType, its whole number and its printed form.
use Rattle.std.specs.Prelude.{ℕ, ℤ, pos, List, ◌++◌}
use Rattle.std.specs.Fmt.{signed_decimal}
use Rattle.vortex_dtype.specs.declared.ptype.PType.{PType}
use Rattle.vortex_dtype.specs.declared.ptype.PType.TheVariants as kinds
use Rattle.vortex_dtype.specs.PTypes.{ptype_text}
use Rattle.vortex_pvalue.specs.declared.pvalues.PValue.{PValue}
use Rattle.vortex_pvalue.specs.declared.pvalues.PValue.TheVariants.{U8, U16, U32, U64, I8, I16, I32, I64}

-- the whole number
abbrev pub whole_of : PValue → ℤ
whole_of (U8 n) = pos n
whole_of (U16 n) = pos n
whole_of (U32 n) = pos n
whole_of (U64 n) = pos n
whole_of (I8 z) = z
whole_of (I16 z) = z
whole_of (I32 z) = z
whole_of (I64 z) = z

-- the PType
abbrev pub ptype_of : PValue → PType
ptype_of (U8 n) = kinds.U8
ptype_of (U16 n) = kinds.U16
ptype_of (U32 n) = kinds.U32
ptype_of (U64 n) = kinds.U64
ptype_of (I8 z) = kinds.I8
ptype_of (I16 z) = kinds.I16
ptype_of (I32 z) = kinds.I32
ptype_of (I64 z) = kinds.I64

-- the printed form of a number of a PType: the number in decimal, then the PType's name
abbrev pub number_text : PType → ℤ → List ℕ
number_text k z = signed_decimal z ++ ptype_text k

-- the printed form of the value
abbrev pub pvalue_text : PValue → List ℕ
pvalue_text v = number_text (ptype_of v) (whole_of v)
