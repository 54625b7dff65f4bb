-- Worked cases of the definitions, each a theorem.
use Rattle.std.specs.Prelude.{◌≡◌, ℕ, pos, negsuc, true, false, List, [], ◌∷◌, map, refl}
use Rattle.arrow_columns.specs.Kinds.{kind_at}
use Rattle.arrow_columns.specs.declared.kinds.IntegerKind.TheVariants.{I16}
use Rattle.arrow_columns.specs.declared.kinds.Kind.TheVariants.{Boolean, Integer, Null, Utf8}
use Rattle.vortex_dtype.specs.TypeTree.{integer_type, null_type, utf8_type}
use Rattle.vortex_dtype.specs.declared.nullability.Nullability.TheVariants.{Nullable}
use Rattle.vortex_dtype.specs.declared.ptype.PType.TheVariants as types
use Rattle.vortex_row.specs.Columns.{row_key}
use Rattle.vortex_row.specs.declared.options.SortOptions.{SortOptions}
use Rattle.vortex_value.specs.Values.Content.{null, text, truth, whole}
use Rattle.column_keys.specs.Cells.{key_at, key_count}
use Rattle.column_keys.specs.Layout.{contents_written, offsets_length, values_length}
use Rattle.column_keys.specs.Types.{types_of_kinds}

-- the keys of the rows (-1, "a") and (7, null), the strings by greater ones first and nulls last
abbrev ascending : SortOptions
ascending = record { descending = false; nulls_first = true }

abbrev descending : SortOptions
descending = record { descending = true; nulls_first = false }

abbrev two : List ℕ
two = 11 ∷ 254 ∷ 234 ∷ 158 ∷ 255 ∷ 13 ∷ 7 ∷ 255 ∷ []

abbrev ends : List ℕ
ends = 0 ∷ 5 ∷ 8 ∷ []

two_rows : key_count ends ≡ 2
two_rows = refl

first_row : key_at two ends 0 ≡ row_key (ascending ∷ descending ∷ []) (whole (negsuc 0) ∷ text (97 ∷ []) ∷ [])
first_row = refl

second_row : key_at two ends 1 ≡ row_key (ascending ∷ descending ∷ []) (whole (pos 7) ∷ null ∷ [])
second_row = refl

-- their columns: an i16 and a string, by the codes 5 and 9
two_types : types_of_kinds (map kind_at (5 ∷ 9 ∷ [])) ≡ integer_type types.I16 Nullable ∷ utf8_type Nullable ∷ []
two_types = refl

no_kind : types_of_kinds (map kind_at (32 ∷ [])) ≡ null_type ∷ []
no_kind = refl

integers : contents_written (Integer I16) (3 ∷ []) (255 ∷ 255 ∷ 7 ∷ 0 ∷ []) [] 2 ≡ whole (negsuc 0) ∷ whole (pos 7) ∷ []
integers = refl

strings : contents_written Utf8 (1 ∷ []) (97 ∷ []) (0 ∷ 1 ∷ 1 ∷ []) 2 ≡ text (97 ∷ []) ∷ null ∷ []
strings = refl

booleans : contents_written Boolean (5 ∷ []) (4 ∷ []) [] 3 ≡ truth false ∷ null ∷ truth true ∷ []
booleans = refl

nulls : contents_written Null (0 ∷ []) [] [] 2 ≡ null ∷ null ∷ []
nulls = refl

-- how many bytes the values of these have, and how many offsets there are
integer_bytes : values_length (Integer I16) (whole (negsuc 0) ∷ null ∷ []) ≡ 4
integer_bytes = refl

string_bytes : values_length Utf8 (text (97 ∷ 98 ∷ []) ∷ null ∷ text [] ∷ []) ≡ 2
string_bytes = refl

truth_bytes : values_length Boolean (null ∷ []) ≡ 1
truth_bytes = refl

offsets_of_strings : offsets_length Utf8 2 ≡ 3
offsets_of_strings = refl
