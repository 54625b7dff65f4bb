-- The bytes of a number of a PType.
use Rattle.std.specs.Prelude.{ℕ, ℤ, List}
use Rattle.std.specs.Int.{Width, w8, w16, w32, w64, to_le_bytes, cast_unsigned}
use Rattle.vortex_dtype.specs.declared.ptype.PType.{PType}
use Rattle.vortex_dtype.specs.declared.ptype.PType.TheVariants.{U8, U16, U32, U64, I8, I16, I32, I64}

-- the machine width of the PType
abbrev pub width_of : PType → Width
width_of U8 = w8
width_of U16 = w16
width_of U32 = w32
width_of U64 = w64
width_of I8 = w8
width_of I16 = w16
width_of I32 = w32
width_of I64 = w64

-- the bytes of the number in two's complement, the lowest first, as many as the PType is wide
abbrev pub bytes_of : PType → ℤ → List ℕ
bytes_of k z = to_le_bytes (width_of k) (cast_unsigned (width_of k) z)
