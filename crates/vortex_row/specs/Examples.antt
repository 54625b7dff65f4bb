-- Worked cases: what each definition was meant to say.
use Rattle.std.specs.Prelude.{◌≡◌, pos, negsuc, true, false, [], ◌∷◌, refl}
use Rattle.std.specs.Cmp.Lexicographic.{slice_cmp}
use Rattle.std.specs.Ordering.{nat_cmp}
use Rattle.std.specs.declared.cmp.Ordering.TheVariants.{Less, Greater}
use Rattle.vortex_value.specs.Values.Content.{null, truth, whole, text, string, sequence, tagged, no_contents, content_then}
use Rattle.vortex_row.specs.Columns.{key_with, column_cmp, row_key, row_cmp}
use Rattle.vortex_row.specs.ContentOrder.{content_cmp}
use Rattle.vortex_row.specs.Keys.{key}
use Rattle.vortex_row.specs.declared.options.SortOptions.{SortOptions}

null_is_one : key null ≡ 1 ∷ []
null_is_one = refl

false_and_true : key (truth true) ≡ 3 ∷ []
false_and_true = refl

zero_is_short : key (whole (pos 0)) ≡ 12 ∷ []
zero_is_short = refl

number_high_first : key (whole (pos 258)) ≡ 14 ∷ 1 ∷ 2 ∷ []
number_high_first = refl

zeros_inside_stay : key (whole (pos 65536)) ≡ 15 ∷ 1 ∷ 0 ∷ 0 ∷ []
zeros_inside_stay = refl

minus_one : key (whole (negsuc 0)) ≡ 11 ∷ 254 ∷ []
minus_one = refl

minus_thousand : key (whole (negsuc 999)) ≡ 10 ∷ 252 ∷ 23 ∷ []
minus_thousand = refl

-- "ab"
text_ends : key (text (97 ∷ 98 ∷ [])) ≡ 21 ∷ 97 ∷ 98 ∷ 0 ∷ []
text_ends = refl

bytes_are_escaped : key (string (0 ∷ 1 ∷ 2 ∷ 255 ∷ [])) ≡ 22 ∷ 1 ∷ 1 ∷ 1 ∷ 2 ∷ 2 ∷ 255 ∷ 0 ∷ []
bytes_are_escaped = refl

-- [5, null], whatever its type
list_ends : key (sequence (content_then (whole (pos 5)) (content_then null no_contents))) ≡ 23 ∷ 13 ∷ 5 ∷ 1 ∷ 0 ∷ []
list_ends = refl

-- a list is above its beginnings, also if a null follows
longer_is_above : slice_cmp nat_cmp (key (sequence no_contents)) (key (sequence (content_then null no_contents))) ≡ Less
longer_is_above = refl

union_has_id : key (tagged 7 (truth true)) ≡ 24 ∷ 7 ∷ 3 ∷ []
union_has_id = refl

-- a number is below a text
kinds_are_ordered : content_cmp (whole (pos 5)) (text []) ≡ Less
kinds_are_ordered = refl

-- of unions the ids go first
ids_go_first : content_cmp (tagged 2 null) (tagged 1 (truth true)) ≡ Greater
ids_go_first = refl

abbrev ascending : SortOptions
ascending = record { descending = false; nulls_first = true }

abbrev descending_nulls_last : SortOptions
descending_nulls_last = record { descending = true; nulls_first = false }

greater_first : key_with descending_nulls_last (truth false) ≡ 253 ∷ []
greater_first = refl

null_first : key_with ascending null ≡ 1 ∷ []
null_first = refl

null_last : key_with descending_nulls_last null ≡ 255 ∷ []
null_last = refl

-- a null inside a value goes with the value: it is the least, and so the last if greater ones come first
inner_null : key_with descending_nulls_last (sequence (content_then null no_contents)) ≡ 232 ∷ 254 ∷ 255 ∷ []
inner_null = refl

nulls_stand_last : column_cmp descending_nulls_last (whole (pos 5)) null ≡ Less
nulls_stand_last = refl

-- ("a", 5), the second column by greater ones first
row_of_two : row_key (ascending ∷ descending_nulls_last ∷ []) (text (97 ∷ []) ∷ whole (pos 5) ∷ []) ≡ 21 ∷ 97 ∷ 0 ∷ 242 ∷ 250 ∷ []
row_of_two = refl

-- the first column that differs decides
first_decides : row_cmp (ascending ∷ ascending ∷ []) (null ∷ whole (pos 9) ∷ []) (truth false ∷ null ∷ []) ≡ Less
first_decides = refl
