-- Decimals of more than 18 digits as bytes.
use Rattle.std.specs.Prelude.{ℕ, ℤ, pos, ◌+ℤ◌, List, unsigned_abs}
use Rattle.std.specs.Int.{bytes_high_first}

-- the 16 bytes of a number of 128 bits and 2 ^ 127, the greatest first
abbrev pub decimal_bytes : ℤ → List ℕ
decimal_bytes z = bytes_high_first 16 (unsigned_abs (z +ℤ pos 170_141_183_460_469_231_731_687_303_715_884_105_728))
