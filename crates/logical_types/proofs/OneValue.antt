-- A word is of one value of a logical type.
use Rattle.std.proofs.Common.{◌≡◌, ◌∙◌, ◌*ℤ◌, ℕ, ℤ, List, Option, Some, pos, sym}
use Rattle.logical_types.specs.Times.{nanoseconds_of}
use Rattle.logical_types.specs.Words.{Writes}
use Rattle.logical_types.specs.declared.logical.LogicalType.{LogicalType}
use Rattle.logical_types.specs.declared.logical.LogicalType.TheVariants.{Float64, Float32, Decimal, Date, Time, Timestamp}
use Rattle.logical_types.proofs.DateWords.{one_day}
use Rattle.logical_types.proofs.TimestampWords.{one_number}

in_some : (o : Option ℤ) (y z : ℤ) → o ≡ Some y → o ≡ Some z → y ≡ z
in_some o y z a b = let e = sym a ∙ b in cc

pub one_value : (logical : LogicalType) (word : List ℕ) (y z : ℤ) → Writes logical word y → Writes logical word z → y ≡ z
one_value Float64 word y z a b = in_some _ y z a b
one_value Float32 word y z a b = in_some _ y z a b
one_value (Decimal d) word y z a b = in_some _ y z a b
one_value Date word y z a b = one_day word y z a b
one_value (Time unit) word y z a b = one_number unit y z (in_some _ (y *ℤ pos (nanoseconds_of unit)) (z *ℤ pos (nanoseconds_of unit)) a.moment b.moment)
one_value (Timestamp unit is_zoned) word y z a b = one_number unit y z (in_some _ (y *ℤ pos (nanoseconds_of unit)) (z *ℤ pos (nanoseconds_of unit)) a.moment b.moment)
