-- Bitmaps: bit i stands in byte i / 8, and of a byte the least significant bit comes first.
use Rattle.std.specs.Prelude.{ℕ, ◌+◌, ◌/◌, ◌%◌, ◌*◌, ◌≤◌, ◌≢◌, ◌==◌, List, length, slice_index, Bool, ◌||◌}
use Rattle.std.specs.Int.{bit_at}

-- how many bytes a bitmap of so many rows has
abbrev pub bitmap_length : ℕ → ℕ
bitmap_length count = (count + 7) / 8

-- bit i is set
abbrev pub bit_of : List ℕ → ℕ → Bool
bit_of bitmap i = bit_at (slice_index bitmap (i / 8)) (i % 8) == 1

-- row i is no null: there is no bitmap, or its bit is set
abbrev pub is_valid : List ℕ → ℕ → Bool
is_valid validity i = (length validity == 0) || bit_of validity i

-- a bitmap, if there is one, has a bit for each row below the end
abbrev pub HasBits : List ℕ → ℕ → Type 0
HasBits validity end = length validity ≢ 0 → end ≤ 8 * length validity
