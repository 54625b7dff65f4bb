-- The ranges of the kinds: which numbers they have, and the least and the greatest.
use Rattle.std.proofs.Common.{◌≤ℤ◌, ◌<ℤ◌, ◌+ℤ◌, ◌^◌, ℤ, pos, arith}
use Rattle.std.specs.Int.{w8, w16, w32, w64}
use Rattle.std.proofs.lemmas.Int.{ints}
use Rattle.num_traits.specs.Ints.{unsigned-bounds, signed-bounds}
use Rattle.vortex_dtype.specs.declared.ptype.PType.{PType}
use Rattle.vortex_dtype.specs.declared.ptype.PType.TheVariants.{U8, U16, U32, U64, I8, I16, I32, I64}
use Rattle.vortex_pvalue.specs.PTypeLaws.{RangeIsInterval}
use Rattle.vortex_pvalue.specs.Numbers.{least_of, greatest_of, bits_of}

-- a kind has the numbers from its least to its greatest, and no others
pub range_is_interval : RangeIsInterval
range_is_interval U8 z = unsigned-bounds 8 z
range_is_interval U16 z = unsigned-bounds 16 z
range_is_interval U32 z = unsigned-bounds 32 z
range_is_interval U64 z = unsigned-bounds 64 z
range_is_interval I8 z = signed-bounds w8 z
range_is_interval I16 z = signed-bounds w16 z
range_is_interval I32 z = signed-bounds w32 z
range_is_interval I64 z = signed-bounds w64 z

-- the greatest number of a kind is 2 to the power of its bits above the least, less one
pub greatest-below : (k : PType) (z : ℤ) → z ≤ℤ greatest_of k → z <ℤ (least_of k +ℤ pos (2 ^ bits_of k))
greatest-below U8 z h = omega (arith, ints)
greatest-below U16 z h = omega (arith, ints)
greatest-below U32 z h = omega (arith, ints)
greatest-below U64 z h = omega (arith, ints)
greatest-below I8 z h = omega (arith, ints)
greatest-below I16 z h = omega (arith, ints)
greatest-below I32 z h = omega (arith, ints)
greatest-below I64 z h = omega (arith, ints)
