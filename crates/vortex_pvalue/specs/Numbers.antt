-- The numbers of the eight PTypes.
use Rattle.std.specs.Prelude.{◌≡◌, ℕ, ℤ, Bool, false, pos, negsuc, nat_lt, ◌-◌, ◌*◌, ◌^◌, ◌+ℤ◌, ◌*ℤ◌, FitsSigned}
use Rattle.std.specs.Int.{FitsUnsignedBits, int_rem_euclid, int_wrap, w8, w16, w32, w64}
use Rattle.vortex_dtype.specs.PTypes.{byte_width_of}
use Rattle.vortex_dtype.specs.declared.ptype.PType.{PType}
use Rattle.vortex_dtype.specs.declared.ptype.PType.TheVariants.{U8, U16, U32, U64, I8, I16, I32, I64}

-- the PType has this number: from 0 to 2 ^ bits - 1, or from -2 ^ (bits - 1) to 2 ^ (bits - 1) - 1
abbrev pub InRange : PType → ℤ → Type 0
InRange U8 z = FitsUnsignedBits 8 z
InRange U16 z = FitsUnsignedBits 16 z
InRange U32 z = FitsUnsignedBits 32 z
InRange U64 z = FitsUnsignedBits 64 z
InRange I8 z = FitsSigned w8 z
InRange I16 z = FitsSigned w16 z
InRange I32 z = FitsSigned w32 z
InRange I64 z = FitsSigned w64 z

-- whether an unsigned PType of so many bits has the number
abbrev pub in_unsigned : ℕ → ℤ → Bool
in_unsigned bits (pos n) = nat_lt n (2 ^ bits)
in_unsigned bits (negsuc n) = false

-- whether a signed PType of so many bits beside the sign has the number
abbrev pub in_signed : ℕ → ℤ → Bool
in_signed bits (pos n) = nat_lt n (2 ^ bits)
in_signed bits (negsuc n) = nat_lt n (2 ^ bits)

-- whether the PType has this number
abbrev pub in_range : PType → ℤ → Bool
in_range U8 z = in_unsigned 8 z
in_range U16 z = in_unsigned 16 z
in_range U32 z = in_unsigned 32 z
in_range U64 z = in_unsigned 64 z
in_range I8 z = in_signed 7 z
in_range I16 z = in_signed 15 z
in_range I32 z = in_signed 31 z
in_range I64 z = in_signed 63 z

-- how many bits a number of the PType takes
abbrev pub bits_of : PType → ℕ
bits_of k = 8 * byte_width_of k

-- r is the number of the PType that differs from z by a multiple of 2 to the power of the PType's bits
pub record IsWrapped (k : PType) (z r : ℤ) : Type 0 where
  pub in_range : InRange k r
  pub differs : (q : ℤ) × (z ≡ (r +ℤ (q *ℤ pos (2 ^ bits_of k))))

-- the number of the PType that differs from z by a multiple of 2 to the power of the PType's bits, computed
abbrev pub wrapped : PType → ℤ → ℤ
wrapped U8 z = int_rem_euclid z (pos (2 ^ 8))
wrapped U16 z = int_rem_euclid z (pos (2 ^ 16))
wrapped U32 z = int_rem_euclid z (pos (2 ^ 32))
wrapped U64 z = int_rem_euclid z (pos (2 ^ 64))
wrapped I8 z = int_wrap w8 z
wrapped I16 z = int_wrap w16 z
wrapped I32 z = int_wrap w32 z
wrapped I64 z = int_wrap w64 z

-- the least number of the PType
abbrev pub least_of : PType → ℤ
least_of U8 = pos 0
least_of U16 = pos 0
least_of U32 = pos 0
least_of U64 = pos 0
least_of I8 = negsuc (2 ^ 7 - 1)
least_of I16 = negsuc (2 ^ 15 - 1)
least_of I32 = negsuc (2 ^ 31 - 1)
least_of I64 = negsuc (2 ^ 63 - 1)

-- the greatest number of the PType
abbrev pub greatest_of : PType → ℤ
greatest_of U8 = pos (2 ^ 8 - 1)
greatest_of U16 = pos (2 ^ 16 - 1)
greatest_of U32 = pos (2 ^ 32 - 1)
greatest_of U64 = pos (2 ^ 64 - 1)
greatest_of I8 = pos (2 ^ 7 - 1)
greatest_of I16 = pos (2 ^ 15 - 1)
greatest_of I32 = pos (2 ^ 31 - 1)
greatest_of I64 = pos (2 ^ 63 - 1)
