-- Offsets: row i of a column of strings has the bytes from offset i to offset i + 1.
use Rattle.std.specs.Prelude.{ℕ, ◌+◌, ◌-◌, ◌^◌, ◌<◌, ◌≤◌, List, length, slice_range}
use Rattle.std.specs.Int.{from_le_bytes, w32, w64}
use Rattle.arrow_columns.specs.Integers.{item_at}
use Rattle.arrow_columns.specs.declared.offset_width.OffsetWidth.{OffsetWidth}
use Rattle.arrow_columns.specs.declared.offset_width.OffsetWidth.TheVariants.{Bits32, Bits64}

-- how many bytes an offset has
abbrev pub bytes_of_offset : OffsetWidth → ℕ
bytes_of_offset Bits32 = 4
bytes_of_offset Bits64 = 8

-- the largest offset: they are signed, so that a negative one is above it
abbrev pub largest_offset : OffsetWidth → ℕ
largest_offset Bits32 = 2 ^ 31 - 1
largest_offset Bits64 = 2 ^ 63 - 1

-- the offset that so many bytes stand for
abbrev pub offset_of : OffsetWidth → List ℕ → ℕ
offset_of Bits32 bytes = from_le_bytes w32 bytes
offset_of Bits64 bytes = from_le_bytes w64 bytes

-- offset i of a buffer
abbrev pub offset_at : OffsetWidth → List ℕ → ℕ → ℕ
offset_at width offsets i = offset_of width (item_at (bytes_of_offset width) offsets i)

-- the bytes of row i, where offset i is this
abbrev pub bytes_between : List ℕ → (ℕ → ℕ) → ℕ → List ℕ
bytes_between bytes offset i = slice_range bytes (offset i) (offset (i + 1))

-- row i ends where it begins or later, and no later than the bytes do or than offsets go
abbrev pub IsRow : OffsetWidth → List ℕ → (ℕ → ℕ) → ℕ → Type 0
IsRow width bytes offset i = (offset i ≤ offset (i + 1)) × (offset (i + 1) ≤ length bytes) × (offset (i + 1) ≤ largest_offset width)

-- each row is one
abbrev pub AreRows : OffsetWidth → List ℕ → (ℕ → ℕ) → ℕ → ℕ → Type 0
AreRows width bytes offset from end = (k : ℕ) → k < end → from ≤ k → IsRow width bytes offset k

-- no offset is below one before it: those up to row k's end are not above the last one
abbrev pub GoUp : (ℕ → ℕ) → ℕ → ℕ → Type 0
GoUp offset from end = (k : ℕ) → k < end → from ≤ k → (offset k ≤ offset (k + 1)) × (offset (k + 1) ≤ offset end)
