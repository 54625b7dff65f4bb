-- Worked cases of columns that are guessed, each a theorem.
use Rattle.std.specs.Prelude.{◌≡◌, List, [], ◌∷◌, false, codes, refl}
use Rattle.std.specs.Char.{encode_utf8}
use Rattle.std.specs.Str.{chars, is_utf8}
use Rattle.csv_records.specs.Rows.{Field}
use Rattle.record_rows.specs.Readings.{Reading}
use Rattle.vortex_dtype.specs.declared.ptype.PType.TheVariants.{I64}
use Rattle.csv_columns.specs.Guesses.{column_words, field_lists, header_names, width_of, words_at}
use Rattle.csv_columns.specs.Kinds.{guess_of, integers, texts}

-- NA without quotes is a null, and a line without a row is passed over
abbrev reading : Reading
reading = record { is_lenient = false; nulls = codes "NA" ∷ [] }

abbrev rows : List (List Field)
rows = field_lists 44 (codes "\nNA,1,\n\"NA\",-2,x,y\n\"\",NA\n")

width : width_of rows ≡ 3
width = refl

quoted_words : words_at reading 0 rows ≡ codes "NA" ∷ [] ∷ []
quoted_words = refl

number_words : words_at reading 1 rows ≡ codes "1" ∷ codes "-2" ∷ []
number_words = refl

number_column : guess_of (column_words reading rows 1) ≡ integers I64
number_column = refl

-- the fourth column has a field, but not in the first row
no_column : guess_of (column_words reading rows 3) ≡ texts
no_column = refl

names : header_names 44 (239 ∷ 187 ∷ 191 ∷ codes "id,\"first, last\"\n") ≡ codes "id" ∷ codes "first, last" ∷ []
unfolding is_utf8 chars encode_utf8
names = refl
