-- The items of numbers in buffers.
use mir.Syntax.{w128, w32, w64}
use Rattle.std.specs.Float.{binary32, binary64}
use Rattle.std.specs.Int.{cast_unsigned, to_le_bytes}
use Rattle.std.specs.Prelude.{◌≡◌, FitsSigned, ℕ, ℤ, List}
use Rattle.float_storage.specs.Storage.{bits_of_storage}
use Rattle.arrow_columns.specs.Integers.{IsOfKind, number_of}
use Rattle.arrow_columns.specs.declared.kinds.ItemKind.{ItemKind}
use Rattle.arrow_columns.specs.declared.kinds.ItemKind.TheVariants.{F32, F64, I128, Integer}
use Rattle.column_cells.specs.Types.{ptype_of_kind}
use Rattle.vortex_pvalue.specs.Bytes.{bytes_of}
use Rattle.column_items.specs.declared.items.StoredItem.{StoredItem}
use Rattle.column_items.specs.declared.items.StoredItem.TheVariants.{Eight, Four, Sixteen}

-- the bytes of an item
abbrev pub bytes_of_stored : StoredItem → List ℕ
bytes_of_stored (Four bytes) = bytes
bytes_of_stored (Eight bytes) = bytes
bytes_of_stored (Sixteen bytes) = bytes

-- an item of the kind has room for the number
abbrev pub FitsItem : ItemKind → ℤ → Type 0
FitsItem (Integer kind) z = IsOfKind kind z
FitsItem F32 z = FitsSigned w32 z
FitsItem F64 z = FitsSigned w64 z
FitsItem I128 z = FitsSigned w128 z

-- the item that is written of a number, its low byte first: an integer in two's complement, and a float by the bits that its storage has.
-- So 0 has no sign, and NaN the bits next above those of infinity
abbrev pub bytes_of_number : ItemKind → ℤ → List ℕ
bytes_of_number (Integer kind) z = bytes_of (ptype_of_kind kind) z
bytes_of_number F32 z = to_le_bytes w32 (bits_of_storage binary32 z)
bytes_of_number F64 z = to_le_bytes w64 (bits_of_storage binary64 z)
bytes_of_number I128 z = to_le_bytes w128 (cast_unsigned w128 z)

-- of all items that stand for the same number this is the one that is written
abbrev pub IsCanonical : ItemKind → List ℕ → Type 0
IsCanonical kind bytes = bytes ≡ bytes_of_number kind (number_of kind bytes)
