-- One byte as the key of a descending column has it.
use Rattle.std.specs.Prelude.{ℕ, ◌-◌, Bool, true, false, not}

-- the byte as it is, or inverted
abbrev pub inverted_byte : Bool → ℕ → ℕ
inverted_byte true b = 255 - b
inverted_byte false b = b

-- whether bytes are inverted that are inverted or not, and perhaps once more
abbrev pub inverted_again : Bool → Bool → Bool
inverted_again invert true = not invert
inverted_again invert false = invert
