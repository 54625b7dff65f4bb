-- Worked cases of checked arithmetic, each a theorem.
use Rattle.std.specs.Prelude.{◌≡◌, pos, negsuc, Some, None, refl}
use Rattle.vortex_dtype.specs.declared.ptype.PType.TheVariants.{U8, I8, I32, U64}
use Rattle.vortex_pvalue.specs.declared.operators.NumericOperator.TheVariants.{Add, Sub, Mul, Div}
use Rattle.vortex_leaves.specs.Arithmetic.{arithmetic}

sum : arithmetic Add I32 (Some (pos 5)) (Some (pos 7)) ≡ Some (Some (pos 12))
sum = refl

-- 200 and 100 are no u8
too_large : arithmetic Add U8 (Some (pos 200)) (Some (pos 100)) ≡ None
too_large = refl

below_zero : arithmetic Sub U8 (Some (pos 5)) (Some (pos 7)) ≡ None
below_zero = refl

-- -5 times 7 is -35
product : arithmetic Mul I8 (Some (negsuc 4)) (Some (pos 7)) ≡ Some (Some (negsuc 34))
product = refl

-- -7 by 2 is -3, and not -4
cut_toward_zero : arithmetic Div I32 (Some (negsuc 6)) (Some (pos 2)) ≡ Some (Some (negsuc 2))
cut_toward_zero = refl

-- -128 by -1 is no i8
least_by_minus_one : arithmetic Div I8 (Some (negsuc 127)) (Some (negsuc 0)) ≡ None
least_by_minus_one = refl

by_zero : arithmetic Div U64 (Some (pos 7)) (Some (pos 0)) ≡ None
by_zero = refl

-- a null gives a null, whatever the other side is
null_by_zero : arithmetic Div I32 None (Some (pos 0)) ≡ Some None
null_by_zero = refl

null_on_the_right : arithmetic Add I32 (Some (pos 5)) None ≡ Some None
null_on_the_right = refl
