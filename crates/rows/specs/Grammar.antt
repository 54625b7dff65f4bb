-- The grammar of the program: the request of a line.
use Rattle.std.specs.Prelude.{ℕ, ℤ, List, [], ◌∷◌, ◌==◌, ◌&&◌, Bool, Option, None, Some, pos, neg_ℤ, if◌then◌else◌, length, nat_lt, nat_le, codes, find}
use Rattle.std.specs.Char.{is_ascii_digit}
use Rattle.std.specs.List.{list_all}
use Rattle.std.specs.Option.{option_map}
use Rattle.std.specs.Result.{result_ok}
use Rattle.std.specs.Str.{bytes_eq}
use Rattle.std.specs.Str.Parse.{digits_value}
use Rattle.hex.specs.Hex.{decode_of}
use Rattle.vortex_dtype.specs.declared.ptype.PType.{PType}
use Rattle.vortex_dtype.specs.declared.ptype.PType.TheVariants.{U8, U16, U32, U64, I8, I16, I32, I64}
use Rattle.vortex_dtype.specs.PTypes.{ptype_text}
use Rattle.vortex_pvalue.specs.Numbers.{in_range}
use Rattle.rows.specs.Lines.{words_of}
use Rattle.rows.specs.declared.commands.Side.{Side}
use Rattle.rows.specs.declared.commands.Side.TheVariants.{Lower, Upper}

-- the eight integer types
abbrev pub all_ptypes : List PType
all_ptypes = U8 ∷ U16 ∷ U32 ∷ U64 ∷ I8 ∷ I16 ∷ I32 ∷ I64 ∷ []

-- KIND: the PType with this name
unfoldable pub ptype_named : List ℕ → Option PType
ptype_named word = find (λ ptype. bytes_eq word (ptype_text ptype)) all_ptypes

-- each byte is a digit
unfoldable pub all_digits : List ℕ → Bool
all_digits digits = list_all is_ascii_digit digits

-- 1 to 20 digits
unfoldable pub is_natural : List ℕ → Bool
is_natural digits = nat_lt 0 (length digits) && (nat_le (length digits) 20 && all_digits digits)

-- the number that 1 to 20 digits represent
unfoldable pub natural_named : List ℕ → Option ℕ
natural_named digits = if is_natural digits then Some (digits_value 10 digits) else None

-- the negative number that 1 to 20 digits represent after a minus sign
unfoldable pub negative_named : List ℕ → Option ℤ
negative_named digits = option_map (λ n. neg_ℤ (pos n)) (natural_named digits)

-- NUMBER: a minus sign or none, and 1 to 20 digits
unfoldable pub number_named : List ℕ → Option ℤ
number_named [] = None
number_named (b ∷ bs) = if b == 45 then negative_named bs else option_map (λ n. pos n) (natural_named (b ∷ bs))

-- N: the number that 1 to 18 digits represent
unfoldable pub size_named : List ℕ → Option ℕ
size_named digits = if nat_le (length digits) 18 then natural_named digits else None

-- HEX: the bytes that an even number of hexadecimal digits of either case represent
abbrev pub hex_named : List ℕ → Option (List ℕ)
hex_named word = result_ok (decode_of word)

-- what a line can ask for
pub data Request : Type 0 where
  -- a number of the first PType, as the second
  cast : PType → ℤ → PType → Request
  -- the lower or the upper bound of some bytes, at a length
  bound : Side → ℕ → List ℕ → Request

-- a cast is of a number that the first PType has
abbrev pub cast_request : Option PType → Option ℤ → Option PType → Option Request
cast_request (Some from) (Some z) (Some to) = if in_range from z then Some (cast from z to) else None
cast_request (Some from) (Some z) None = None
cast_request (Some from) None to = None
cast_request None number to = None

-- the words after `cast`: KIND NUMBER KIND
abbrev pub cast_operands : List (List ℕ) → Option Request
cast_operands (from ∷ number ∷ to ∷ []) = cast_request (ptype_named from) (number_named number) (ptype_named to)
cast_operands _ = None

-- a bound has a length and bytes
abbrev pub bound_request : Side → Option ℕ → Option (List ℕ) → Option Request
bound_request side (Some n) (Some bytes) = Some (bound side n bytes)
bound_request side (Some n) None = None
bound_request side None bytes = None

-- the words after `lower` and `upper`: N HEX
abbrev pub bound_operands : Side → List (List ℕ) → Option Request
bound_operands side (size ∷ hex ∷ []) = bound_request side (size_named size) (hex_named hex)
bound_operands side _ = None

-- the table of commands: the request of the words of a line
abbrev pub request_in_words : List (List ℕ) → Option Request
request_in_words [] = None
request_in_words (command ∷ operands) =
    if bytes_eq command (codes "cast") then cast_operands operands
    else if bytes_eq command (codes "lower") then bound_operands Lower operands
    else if bytes_eq command (codes "upper") then bound_operands Upper operands
    else None

-- the request of a line, if it is one of the grammar
abbrev pub request_in : List ℕ → Option Request
request_in line = request_in_words (words_of line)
