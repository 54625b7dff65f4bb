-- The row of a record, computed.
use Rattle.std.specs.Prelude.{◌&&◌, ℕ, List, [], ◌∷◌, length, nat_lt, Bool, true, false, Option, None, Some, Result, Ok, Err, if◌then◌else◌}
use Rattle.std.specs.List.{list_all}
use Rattle.std.specs.Str.{is_utf8}
use Rattle.std.specs.Char.{is_digit}
use Rattle.std.specs.Option.{option_map}
use Rattle.std.specs.Str.Parse.{signed_digits_value, without_leading_sign}
use Rattle.hex.specs.Hex.{decode_of}
use Rattle.hex.specs.declared.error.FromHexError.{FromHexError}
use Rattle.logical_types.specs.Shapes.{shape_of, storage_in}
use Rattle.csv_records.specs.Rows.{Field, rows_of}
use Rattle.record_rows.specs.Cells.{column_type, stored_content}
use Rattle.record_rows.specs.Readings.{Reading, is_null_field}
use Rattle.record_rows.specs.Rows.{fitted}
use Rattle.record_rows.specs.declared.schema.ColumnType.{ColumnType}
use Rattle.record_rows.specs.declared.schema.Kind.{Kind}
use Rattle.record_rows.specs.declared.schema.Kind.TheVariants as kinds
use Rattle.vortex_dtype.specs.declared.nullability.Nullability.{Nullability}
use Rattle.vortex_dtype.specs.declared.nullability.Nullability.TheVariants.{NonNullable, Nullable}
use Rattle.vortex_dtype.specs.declared.ptype.PType.{PType}
use Rattle.vortex_pvalue.specs.Numbers.{in_range}
use Rattle.vortex_cells.specs.Cells.{Cell}
use Rattle.vortex_value.specs.Values.Content.{Content, null, string, text, whole}

-- one digit or more, and nothing else
abbrev pub is_numeral : List ℕ → Bool
is_numeral digits = nat_lt 0 (length digits) && list_all (λ c. is_digit c 10) digits

-- an optional sign and digits, which are a number of the type
abbrev pub is_integer_word : PType → List ℕ → Bool
is_integer_word ptype word = is_utf8 word && (is_numeral (without_leading_sign word) && in_range ptype (signed_digits_value 10 word))

abbrev pub bytes_content : Result (List ℕ) FromHexError → Option Content
bytes_content (Ok bytes) = Some (string bytes)
bytes_content (Err e) = None

-- what a word is in a column of this kind
abbrev pub word_content : Kind → List ℕ → Option Content
word_content (kinds.Integer ptype) word = if is_integer_word ptype word then Some (whole (signed_digits_value 10 word)) else None
word_content kinds.Utf8 word = if is_utf8 word then Some (text word) else None
word_content kinds.Binary word = bytes_content (decode_of word)
word_content kinds.Bytes word = Some (string word)
word_content (kinds.Logical logical) word = option_map (stored_content logical) (storage_in (shape_of logical) word)

-- the content, or a null in its place where that is asked
abbrev pub or_null : Bool → Nullability → Option Content → Option Content
or_null lenient n (Some c) = Some c
or_null true Nullable None = Some null
or_null true NonNullable None = None
or_null false n None = None

-- what a field is in its column
abbrev pub field_content : Reading → ColumnType → Field → Option Content
field_content reading column f = if is_null_field reading column.nullability f then Some null else or_null reading.is_lenient column.nullability (word_content column.kind f.text)

-- a cell before those of the other columns
abbrev pub cell_before : ColumnType → Option Content → Option (List Cell) → Option (List Cell)
cell_before column (Some c) (Some cells) = Some (record { typed = column_type column; content = c } ∷ cells)
cell_before column (Some c) None = None
cell_before column None cells = None

-- the cells of the fields, of which there are as many as columns
abbrev pub cells_of : Reading → List ColumnType → List Field → Option (List Cell)
cells_of reading [] [] = Some []
cells_of reading [] (f ∷ fs) = None
cells_of reading (c ∷ cs) [] = None
cells_of reading (c ∷ cs) (f ∷ fs) = cell_before c (field_content reading c f) (cells_of reading cs fs)

-- the row of a record whose rows by `csv` are these
abbrev pub only_row : Reading → List ColumnType → List (List Field) → Option (List Cell)
only_row reading columns [] = None
only_row reading columns (fields ∷ []) = cells_of reading columns (fitted reading.is_lenient columns fields)
only_row reading columns (fields ∷ more ∷ rest) = None

-- the row of a record; none where it has none, as an empty line, or where the columns do not take it
abbrev pub row_of : ℕ → Reading → List ColumnType → List ℕ → Option (List Cell)
row_of delimiter reading columns line = only_row reading columns (rows_of delimiter line)
