-- Checked arithmetic on optional whole numbers of one PType.
use Rattle.std.specs.Prelude.{◌+ℤ◌, ◌-ℤ◌, ◌*ℤ◌, ℤ, pos, Option, Some, None, option_map, if◌then◌else◌, int_div}
use Rattle.std.specs.Ordering.{int_eq}
use Rattle.vortex_dtype.specs.TypeTree.{TypeTree, is_nullable}
use Rattle.vortex_dtype.specs.declared.ptype.PType.{PType}
use Rattle.vortex_pvalue.specs.Numbers.{in_range}
use Rattle.vortex_pvalue.specs.declared.operators.NumericOperator.{NumericOperator}
use Rattle.vortex_pvalue.specs.declared.operators.NumericOperator.TheVariants.{Add, Sub, Mul, Div}

-- the quotient, cut toward zero; None by 0
abbrev pub quotient : ℤ → ℤ → Option ℤ
quotient a b = if int_eq b (pos 0) then None else Some (int_div a b)

-- what the operation gives of two numbers, however large
abbrev pub outcome : NumericOperator → ℤ → ℤ → Option ℤ
outcome Add a b = Some (a +ℤ b)
outcome Sub a b = Some (a -ℤ b)
outcome Mul a b = Some (a *ℤ b)
outcome Div a b = quotient a b

-- the number, if it is in the range of k
abbrev pub within : PType → Option ℤ → Option ℤ
within k None = None
within k (Some z) = if in_range k z then Some z else None

-- null if a side is null; else the number that the operation gives, and None if it gives none or the number is out of range
-- for k
abbrev pub arithmetic : NumericOperator → PType → Option ℤ → Option ℤ → Option (Option ℤ)
arithmetic op k (Some a) (Some b) = option_map Some (within k (outcome op a b))
arithmetic op k _ _ = Some None

-- the type of the result: the left type if it is nullable, and else the right type
abbrev pub numeric_type : TypeTree → TypeTree → TypeTree
numeric_type s t = if is_nullable s then s else t
