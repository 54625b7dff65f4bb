-- Integers as they lie in a buffer, one after another, each with its low byte first.
use Rattle.std.specs.Prelude.{ℕ, ℤ, pos, negsuc, ◌*◌, ◌+◌, ◌-◌, ◌^◌, ◌≤ℤ◌, List, [], Option, slice_index_or, slice_range}
use Rattle.std.specs.Int.{w8, w16, w32, w64, w128, cast_signed, from_le_bytes}
use Rattle.arrow_columns.specs.Cells.{cell_at}
use Rattle.arrow_columns.specs.declared.kinds.IntegerKind.{IntegerKind}
use Rattle.arrow_columns.specs.declared.kinds.IntegerKind.TheVariants.{U8, U16, U32, U64, I8, I16, I32, I64}
use Rattle.arrow_columns.specs.declared.kinds.ItemKind.{ItemKind}
use Rattle.arrow_columns.specs.declared.kinds.ItemKind.TheVariants.{Integer, F32, F64, I128}
use Rattle.float_storage.specs.Storage.{storage_of_bits}
use Rattle.std.specs.Float.{binary32, binary64}

-- how many bytes an integer of the kind has
abbrev pub width_of : IntegerKind → ℕ
width_of U8 = 1
width_of U16 = 2
width_of U32 = 4
width_of U64 = 8
width_of I8 = 1
width_of I16 = 2
width_of I32 = 4
width_of I64 = 8

-- the integer that so many bytes stand for; of a signed kind in two's complement
abbrev pub integer_of : IntegerKind → List ℕ → ℤ
integer_of U8 bytes = pos (from_le_bytes w8 bytes)
integer_of U16 bytes = pos (from_le_bytes w16 bytes)
integer_of U32 bytes = pos (from_le_bytes w32 bytes)
integer_of U64 bytes = pos (from_le_bytes w64 bytes)
integer_of I8 bytes = cast_signed w8 (from_le_bytes w8 bytes)
integer_of I16 bytes = cast_signed w16 (from_le_bytes w16 bytes)
integer_of I32 bytes = cast_signed w32 (from_le_bytes w32 bytes)
integer_of I64 bytes = cast_signed w64 (from_le_bytes w64 bytes)

-- how many bytes an item of the kind has
abbrev pub width_of_item : ItemKind → ℕ
width_of_item (Integer kind) = width_of kind
width_of_item F32 = 4
width_of_item F64 = 8
width_of_item I128 = 16

-- the number that an item of the kind stands for: an integer's own, and of a float its storage, which sorts as it does
abbrev pub number_of : ItemKind → List ℕ → ℤ
number_of (Integer kind) bytes = integer_of kind bytes
number_of F32 bytes = storage_of_bits binary32 (from_le_bytes w32 bytes)
number_of F64 bytes = storage_of_bits binary64 (from_le_bytes w64 bytes)
number_of I128 bytes = cast_signed w128 (from_le_bytes w128 bytes)

-- item i of a buffer whose items have n bytes
abbrev pub item_at : ℕ → List ℕ → ℕ → List ℕ
item_at n buffer i = slice_range buffer (i * n) (i * n + n)

-- row i of items of a kind, and of a bitmap: its number, or none where it is null
abbrev pub cell_of_item : ItemKind → List ℕ → List (List ℕ) → ℕ → Option ℤ
cell_of_item kind validity items = cell_at validity (λ i. number_of kind (slice_index_or items i []))

-- the least and the greatest integer of a kind
abbrev pub least_of : IntegerKind → ℤ
least_of U8 = pos 0
least_of U16 = pos 0
least_of U32 = pos 0
least_of U64 = pos 0
least_of I8 = negsuc (2 ^ 7 - 1)
least_of I16 = negsuc (2 ^ 15 - 1)
least_of I32 = negsuc (2 ^ 31 - 1)
least_of I64 = negsuc (2 ^ 63 - 1)

abbrev pub greatest_of : IntegerKind → ℤ
greatest_of U8 = pos (2 ^ 8 - 1)
greatest_of U16 = pos (2 ^ 16 - 1)
greatest_of U32 = pos (2 ^ 32 - 1)
greatest_of U64 = pos (2 ^ 64 - 1)
greatest_of I8 = pos (2 ^ 7 - 1)
greatest_of I16 = pos (2 ^ 15 - 1)
greatest_of I32 = pos (2 ^ 31 - 1)
greatest_of I64 = pos (2 ^ 63 - 1)

-- the kind has this integer
abbrev pub IsOfKind : IntegerKind → ℤ → Type 0
IsOfKind kind z = (least_of kind ≤ℤ z) × (z ≤ℤ greatest_of kind)
