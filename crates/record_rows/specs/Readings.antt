-- How the fields of records are read.
use Rattle.std.specs.Prelude.{◌==◌, ◌&&◌, ◌||◌, ℕ, List, length, Bool, false, not}
use Rattle.std.specs.List.{list_any}
use Rattle.std.specs.Str.{bytes_eq}
use Rattle.csv_records.specs.Rows.{Field}
use Rattle.vortex_dtype.specs.declared.nullability.Nullability.{Nullability}
use Rattle.vortex_dtype.specs.declared.nullability.Nullability.TheVariants.{NonNullable, Nullable}

-- whether a field that its column does not take is a null, where the column takes nulls; and the words that are nulls there
pub record Reading : Type 0 where
  pub is_lenient : Bool
  pub nulls : List (List ℕ)

-- whether a word is one of those
abbrev pub is_null_word : List (List ℕ) → List ℕ → Bool
is_null_word nulls word = list_any (λ null. bytes_eq null word) nulls

-- whether a field is a null: without quotes, and without a byte or one of those words, in a column that takes nulls
abbrev pub is_null_field : Reading → Nullability → Field → Bool
is_null_field reading Nullable f = ((length f.text == 0) || is_null_word reading.nulls f.text) && not f.is_quoted
is_null_field reading NonNullable f = false
