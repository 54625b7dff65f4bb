-- The words of integers.
use Rattle.std.specs.Prelude.{◌≡◌, ℤ, List, ℕ, IsUtf8}
use Rattle.std.specs.Str.Parse.{IsNumeral, signed_digits_value, without_leading_sign}
use Rattle.vortex_dtype.specs.declared.ptype.PType.{PType}
use Rattle.vortex_pvalue.specs.Conversions.{IsNumber}
use Rattle.vortex_pvalue.specs.Numbers.{InRange}
use Rattle.vortex_pvalue.specs.declared.pvalues.PValue.{PValue}

-- the word is this number of the type: an optional sign and decimal digits
pub record IsIntegerWord (ptype : PType) (word : List ℕ) (z : ℤ) : Type 0 where
  pub text : IsUtf8 word
  pub digits : IsNumeral 10 (without_leading_sign word)
  pub value : signed_digits_value 10 word ≡ z
  pub fits : InRange ptype z

-- the value is the number that the word is
abbrev pub IsNumberOf : PType → List ℕ → PValue → Type 0
IsNumberOf ptype word v = (z : ℤ) × IsIntegerWord ptype word z × IsNumber ptype z v
