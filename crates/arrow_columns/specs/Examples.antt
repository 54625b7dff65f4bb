-- Worked cases of the definitions.
use Rattle.std.specs.Prelude.{◌≡◌, ℕ, pos, negsuc, List, [], ◌∷◌, true, false, Some, None, refl}
use Rattle.arrow_columns.specs.Bitmaps.{bit_of, is_valid}
use Rattle.arrow_columns.specs.Cells.{cells_from}
use Rattle.arrow_columns.specs.Integers.{greatest_of, integer_of, item_at, least_of}
use Rattle.arrow_columns.specs.Kinds.{kind_at}
use Rattle.arrow_columns.specs.Offsets.{bytes_between, offset_at}
use Rattle.arrow_columns.specs.declared.kinds.IntegerKind.TheVariants.{I16, I64, I8, U16}
use Rattle.arrow_columns.specs.declared.kinds.Kind.TheVariants.{Null, Utf8}
use Rattle.arrow_columns.specs.declared.offset_width.OffsetWidth.TheVariants.{Bits32, Bits64}

-- the bitmap 5, 1: bits 0, 2 and 8
lowest_bit_first : bit_of (5 ∷ 1 ∷ []) 0 ≡ true
lowest_bit_first = refl

unset_bit : bit_of (5 ∷ 1 ∷ []) 1 ≡ false
unset_bit = refl

next_byte : bit_of (5 ∷ 1 ∷ []) 8 ≡ true
next_byte = refl

-- with no bitmap no row is null
absent_bitmap : is_valid [] 1000 ≡ true
absent_bitmap = refl

-- 0xfffe is -2 of 16 bits with a sign, and 65534 without
low_byte_first : integer_of I16 (254 ∷ 255 ∷ []) ≡ negsuc 1
low_byte_first = refl

without_sign : integer_of U16 (254 ∷ 255 ∷ []) ≡ pos 65534
without_sign = refl

bounds_of_a_byte : least_of I8 ≡ negsuc 127
bounds_of_a_byte = refl

greatest_long : greatest_of I64 ≡ pos 9223372036854775807
greatest_long = refl

-- the integers 1, 258 and 3 of 16 bits, of which the first is null
abbrev three : List ℕ
three = 1 ∷ 0 ∷ 2 ∷ 1 ∷ 3 ∷ 0 ∷ []

null_first : cells_from (6 ∷ []) (λ i. integer_of U16 (item_at 2 three i)) 0 3 ≡ None ∷ Some (pos 258) ∷ Some (pos 3) ∷ []
null_first = refl

-- from offset 1 on, where the bit of the first row is bit 1
from_offset : cells_from (6 ∷ []) (λ i. integer_of U16 (item_at 2 three i)) 1 2 ≡ Some (pos 258) ∷ Some (pos 3) ∷ []
from_offset = refl

-- booleans: true, null, false
booleans : cells_from (5 ∷ []) (bit_of (3 ∷ [])) 0 3 ≡ Some true ∷ None ∷ Some false ∷ []
booleans = refl

-- the strings "a" and "bc"
abbrev two_offsets : List ℕ
two_offsets = 0 ∷ 0 ∷ 0 ∷ 0 ∷ 1 ∷ 0 ∷ 0 ∷ 0 ∷ 3 ∷ 0 ∷ 0 ∷ 0 ∷ []

strings : cells_from [] (bytes_between (97 ∷ 98 ∷ 99 ∷ []) (offset_at Bits32 two_offsets)) 0 2 ≡ Some (97 ∷ []) ∷ Some (98 ∷ 99 ∷ []) ∷ []
strings = refl

wide_offset : offset_at Bits64 (0 ∷ 0 ∷ 0 ∷ 0 ∷ 0 ∷ 0 ∷ 0 ∷ 0 ∷ 2 ∷ 1 ∷ 0 ∷ 0 ∷ 0 ∷ 0 ∷ 0 ∷ 0 ∷ []) 1 ≡ 258
wide_offset = refl

-- codes of kinds
strings_code : kind_at 9 ≡ Some Utf8
strings_code = refl

last_code : kind_at 13 ≡ Some Null
last_code = refl

no_code : kind_at 32 ≡ None
no_code = refl
