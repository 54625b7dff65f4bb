-- Bytes by pairs of hexadecimal digits.
use Rattle.std.specs.Prelude.{ℕ, ◌+◌, ◌*◌, Option, None, Some}
use Rattle.hex.specs.Hex.{hex_digit_value}

-- the byte of two digits by their values, if both have one
abbrev pub byte_of_values : Option ℕ → Option ℕ → Option ℕ
byte_of_values (Some high) (Some low) = Some (high * 16 + low)
byte_of_values (Some high) None = None
byte_of_values None low = None

-- the byte that two hexadecimal digits of either case represent
abbrev pub byte_of_digits : ℕ → ℕ → Option ℕ
byte_of_digits high low = byte_of_values (hex_digit_value high) (hex_digit_value low)
