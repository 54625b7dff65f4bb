-- The values of columns as bytes.
use Rattle.std.specs.Prelude.{◌≡◌, ℕ, Bool, true, false, List, [], ◌∷◌, length}
use Rattle.arrow_columns.specs.Formats.{items_of}
use Rattle.arrow_columns.specs.Integers.{integer_of, number_of, width_of, width_of_item}
use Rattle.column_cells.specs.Contents.{stored_content}
use Rattle.column_items.specs.Items.{IsCanonical}
use Rattle.arrow_columns.specs.declared.kinds.Kind.{Kind}
use Rattle.arrow_columns.specs.declared.kinds.Kind.TheVariants.{Binary, Boolean, Integer, LargeBinary, LargeUtf8, Logical, Utf8}
use Rattle.vortex_value.specs.Values.Content.{Content, string, text, truth, whole}
use Rattle.column_statistics.specs.declared.items.Item.{Item}
use Rattle.column_statistics.specs.declared.items.Item.TheVariants.{All, Eight, Four, One, Sixteen, Two}

-- the bytes of an item
abbrev pub bytes_of_item : Item → List ℕ
bytes_of_item (One bytes) = bytes
bytes_of_item (Two bytes) = bytes
bytes_of_item (Four bytes) = bytes
bytes_of_item (Eight bytes) = bytes
bytes_of_item (Sixteen bytes) = bytes
bytes_of_item (All bytes) = bytes.now

-- a truth value as a byte
abbrev pub truth_byte : Bool → ℕ
truth_byte false = 0
truth_byte true = 1

-- the bytes are those of a value of a column of the kind: of an integer as a buffer has it, of a logical type the item that is written
-- of the number that is stored so, and else the value itself
abbrev pub IsItemOf : Kind → Content → List ℕ → Type 0
IsItemOf (Integer kind) (whole z) bytes = (length bytes ≡ width_of kind) × (integer_of kind bytes ≡ z)
IsItemOf (Logical format) content bytes =
    (length bytes ≡ width_of_item (items_of format)) × (stored_content format (number_of (items_of format) bytes) ≡ content)
    × IsCanonical (items_of format) bytes
IsItemOf Boolean (truth b) bytes = bytes ≡ truth_byte b ∷ []
IsItemOf Utf8 (text s) bytes = bytes ≡ s
IsItemOf LargeUtf8 (text s) bytes = bytes ≡ s
IsItemOf Binary (string s) bytes = bytes ≡ s
IsItemOf LargeBinary (string s) bytes = bytes ≡ s
IsItemOf _ _ _ = ⊥
