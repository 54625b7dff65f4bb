-- Worked cases of the definitions, each a theorem.
use Rattle.std.specs.Prelude.{◌≡◌, ℕ, zero, suc, negsuc, pos, List, [], ◌∷◌, map, true, false, refl}
use Rattle.arrow_columns.specs.Bitmaps.{bit_of}
use Rattle.arrow_columns.specs.Cells.{cells_from}
use Rattle.arrow_columns.specs.Integers.{integer_of, item_at}
use Rattle.arrow_columns.specs.Kinds.{kind_at}
use Rattle.arrow_columns.specs.Offsets.{bytes_between}
use Rattle.arrow_columns.specs.declared.kinds.IntegerKind.TheVariants.{I16}
use Rattle.vortex_dtype.specs.TypeTree.{integer_type, null_type, utf8_type}
use Rattle.vortex_dtype.specs.declared.nullability.Nullability.TheVariants.{Nullable}
use Rattle.vortex_dtype.specs.declared.ptype.PType.TheVariants as types
use Rattle.vortex_value.specs.Values.Content.{null, string, text, truth, whole}
use Rattle.column_cells.specs.Contents.{content_or_null}
use Rattle.column_cells.specs.Types.{type_at}

-- codes 5, 10 and 13: integers of 16 bits with a sign, strings and nulls
integers_type : type_at (kind_at 5) ≡ integer_type types.I16 Nullable
integers_type = refl

strings_type : type_at (kind_at 10) ≡ utf8_type Nullable
strings_type = refl

nulls_type : type_at (kind_at 13) ≡ null_type
nulls_type = refl

-- the integers 1, -2 and 3, of which the first is null
abbrev three : List ℕ
three = 1 ∷ 0 ∷ 254 ∷ 255 ∷ 3 ∷ 0 ∷ []

integers : map (content_or_null whole) (cells_from (6 ∷ []) (λ i. integer_of I16 (item_at 2 three i)) 0 3) ≡ null ∷ whole (negsuc 1) ∷ whole (pos 3) ∷ []
integers = refl

-- true, null, false
booleans : map (content_or_null truth) (cells_from (5 ∷ []) (bit_of (3 ∷ [])) 0 3) ≡ truth true ∷ null ∷ truth false ∷ []
booleans = refl

-- "a" and "", as strings and as bytes
abbrev ends : ℕ → ℕ
ends zero = 0
ends (suc i) = 1

strings : map (content_or_null text) (cells_from [] (bytes_between (97 ∷ 98 ∷ []) ends) 0 2) ≡ text (97 ∷ []) ∷ text [] ∷ []
strings = refl

bytes : map (content_or_null string) (cells_from [] (bytes_between (97 ∷ 98 ∷ []) ends) 0 2) ≡ string (97 ∷ []) ∷ string [] ∷ []
bytes = refl
