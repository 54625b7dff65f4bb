-- Worked cases of encodings, each a theorem.
use Rattle.std.specs.Prelude.{◌≡◌, ℕ, pos, true, false, List, [], ◌∷◌, Option, Some, None, refl}
use Rattle.vortex_dtype.specs.TypeTree.{integer_type, utf8_type}
use Rattle.vortex_dtype.specs.declared.nullability.Nullability.TheVariants.{NonNullable, Nullable}
use Rattle.vortex_dtype.specs.declared.ptype.PType.TheVariants.{I32}
use Rattle.vortex_value.specs.Values.Content.{text, whole}
use Rattle.vortex_cells.specs.Cells.{Cell}
use Rattle.vortex_statistics.specs.Merging.{nothing}
use Rattle.vortex_statistics.specs.Statistics.{Known, KnownBound}
use Rattle.statistics_bytes.specs.Encoding.{flags, encoding}
use Rattle.statistics_bytes.specs.EncodingAnswers.{retyped}
use Rattle.statistics_bytes.specs.Pieces.{Says, nothing_known}

-- an i32, and a bound
abbrev number : ℕ → Cell
number n = record { typed = integer_type I32 Nullable; content = whole (pos n) }

abbrev exactly : Cell → Option KnownBound
exactly x = Some (record { value = x; is_exact = true })

abbrev roughly : Cell → Option KnownBound
roughly x = Some (record { value = x; is_exact = false })

-- no rows
no_rows_written : encoding nothing ≡ 1 ∷ 1 ∷ 0 ∷ 0 ∷ 0 ∷ 0 ∷ 0 ∷ 0 ∷ 0 ∷ 0 ∷ 0 ∷ 0 ∷ 0 ∷ 0 ∷ 0 ∷ 0 ∷ 0 ∷ 0 ∷ []
no_rows_written = refl

-- 2, null and 5
abbrev exactly_two_to_five : Known
exactly_two_to_five = record { row_count = 3; null_count = Some 1; lower = exactly (number 2); upper = exactly (number 5) }

two_to_five_written : encoding exactly_two_to_five ≡ 1 ∷ 31 ∷ 0 ∷ 0 ∷ 0 ∷ 0 ∷ 0 ∷ 0 ∷ 0 ∷ 3 ∷ 0 ∷ 0 ∷ 0 ∷ 0 ∷ 0 ∷ 0 ∷ 0 ∷ 1 ∷ 13 ∷ 2 ∷ 13 ∷ 5 ∷ []
two_to_five_written = refl

-- bounds of one type and of another have one encoding
other_type_written : encoding (record exactly_two_to_five { upper = exactly (retyped (utf8_type NonNullable) (number 5)) }) ≡ encoding exactly_two_to_five
other_type_written = refl

-- "apple" and "banana", their bounds cut to three bytes: "app" and "bao"
abbrev text_cell : List ℕ → Cell
text_cell bs = record { typed = utf8_type NonNullable; content = text bs }

cut_strings_written : encoding (record { row_count = 2; null_count = Some 0; lower = roughly (text_cell (97 ∷ 112 ∷ 112 ∷ [])); upper = roughly (text_cell (98 ∷ 97 ∷ 111 ∷ [])) })
    ≡ 1 ∷ 11 ∷ 0 ∷ 0 ∷ 0 ∷ 0 ∷ 0 ∷ 0 ∷ 0 ∷ 2 ∷ 0 ∷ 0 ∷ 0 ∷ 0 ∷ 0 ∷ 0 ∷ 0 ∷ 0 ∷ 21 ∷ 97 ∷ 112 ∷ 112 ∷ 0 ∷ 21 ∷ 98 ∷ 97 ∷ 111 ∷ 0 ∷ []
cut_strings_written = refl

-- unknown counts and missing bounds take no bytes
unbounded_written : encoding (record { row_count = 256; null_count = None; lower = None; upper = None }) ≡ 1 ∷ 0 ∷ 0 ∷ 0 ∷ 0 ∷ 0 ∷ 0 ∷ 0 ∷ 1 ∷ 0 ∷ []
unbounded_written = refl

one_bound_of_two : flags (record { row_count = 2; null_count = None; lower = roughly (number 1); upper = exactly (number 4) }) ≡ 26
one_bound_of_two = refl

-- an empty piece says nothing, whatever the type
nothing_said : Says (utf8_type NonNullable) [] nothing_known
nothing_said = refl
