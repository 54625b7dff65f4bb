-- How a file is read, as a text.
use Rattle.std.specs.Prelude.{◌≡◌, ◌≢◌, ◌<◌, ◌^◌, ◌++◌, ◌∷◌, ℕ, List, [], codes, map, string_bytes, if◌then◌else◌}
use Rattle.std.specs.List.{AllByRecursion, flat_map}
use Rattle.std.specs.Fmt.{decimal}
use Rattle.std.specs.Str.Parse.{IsNumeral, digits_value, without_leading_plus}
use Rattle.csv_columns.specs.Names.{IsLine, IsName, texts}
use Rattle.logical_types.specs.Names.{name_of}
use Rattle.record_rows.specs.declared.schema.ColumnType.{ColumnType}
use Rattle.record_rows.specs.declared.schema.Kind.{Kind}
use Rattle.record_rows.specs.declared.schema.Kind.TheVariants as kinds
use Rattle.record_rows.specs.declared.schema.Schema.{Schema}
use Rattle.vortex_dtype.specs.declared.nullability.Nullability.{Nullability}
use Rattle.vortex_dtype.specs.declared.nullability.Nullability.TheVariants.{NonNullable, Nullable}
use Rattle.vortex_dtype.specs.declared.ptype.PType.TheVariants as ptypes
use Rattle.csv_columns.specs.declared.column_words.NamedColumn.{NamedColumn}
use Rattle.csv_columns.specs.declared.setup.Numbers.{Numbers}
use Rattle.csv_columns.specs.declared.setup.Setup.{Setup}

-- a column and its name, without where that lies in memory
pub record ColumnValue : Type 0 where
  pub name : List ℕ
  pub column : ColumnType

-- a setup without where it lies in memory
pub record SetupValue : Type 0 where
  pub numbers : Numbers
  pub nulls : List (List ℕ)
  pub columns : List ColumnValue

abbrev pub column_value : NamedColumn → ColumnValue
column_value named = record { name = string_bytes named.name; column = named.column }

abbrev pub column_values : List NamedColumn → List ColumnValue
column_values columns = map column_value columns

abbrev pub setup_value : Setup → SetupValue
setup_value setup = record { numbers = setup.numbers; nulls = texts setup.nulls.items; columns = column_values setup.columns.items }

-- the word for a kind
abbrev pub kind_word : Kind → List ℕ
kind_word (kinds.Integer ptypes.I8) = codes "i8"
kind_word (kinds.Integer ptypes.I16) = codes "i16"
kind_word (kinds.Integer ptypes.I32) = codes "i32"
kind_word (kinds.Integer ptypes.I64) = codes "i64"
kind_word (kinds.Integer ptypes.U8) = codes "u8"
kind_word (kinds.Integer ptypes.U16) = codes "u16"
kind_word (kinds.Integer ptypes.U32) = codes "u32"
kind_word (kinds.Integer ptypes.U64) = codes "u64"
kind_word kinds.Utf8 = codes "utf8"
kind_word kinds.Binary = codes "binary"
kind_word kinds.Bytes = codes "bytes"
kind_word (kinds.Logical logical) = name_of logical

-- a kind without a logical type
abbrev pub IsPlain : Kind → Type 0
IsPlain (kinds.Integer ptype) = Unit {0}
IsPlain kinds.Utf8 = Unit {0}
IsPlain kinds.Binary = Unit {0}
IsPlain kinds.Bytes = Unit {0}
IsPlain (kinds.Logical logical) = ⊥

-- a question mark if the column takes nulls
abbrev pub mark_of : Nullability → List ℕ
mark_of Nullable = codes "?"
mark_of NonNullable = []

abbrev pub kind_text : ColumnType → List ℕ
kind_text column = kind_word column.kind ++ mark_of column.nullability

-- four numbers with a blank between two
abbrev pub numbers_text : Numbers → List ℕ
numbers_text n = decimal n.delimiter ++ 32 ∷ (decimal (if n.is_lenient then 1 else 0) ++ 32 ∷ (decimal n.bound_length ++ 32 ∷ decimal n.zone_rows))

-- a kind and a name, with a blank between them, and a line feed
abbrev pub column_line : ColumnValue → List ℕ
column_line c = kind_text c.column ++ 32 ∷ (c.name ++ 10 ∷ [])

abbrev pub column_lines : List ColumnValue → List ℕ
column_lines columns = flat_map column_line columns

-- a word that is a null, behind the word for that, and a line feed
abbrev pub null_line : List ℕ → List ℕ
null_line null = codes "null " ++ (null ++ 10 ∷ [])

abbrev pub null_lines : List (List ℕ) → List ℕ
null_lines nulls = flat_map null_line nulls

-- a setup without the words that are nulls
abbrev pub setup_lines : SetupValue → List ℕ
setup_lines s = numbers_text s.numbers ++ 10 ∷ column_lines s.columns

abbrev pub setup_text : SetupValue → List ℕ
setup_text s = null_lines s.nulls ++ setup_lines s

-- the word is digits, perhaps behind a plus, and this is their number
pub record SaysNumber (word : List ℕ) (n : ℕ) : Type 0 where
  pub digits : IsNumeral 10 (without_leading_plus word)
  pub value : digits_value 10 (without_leading_plus word) ≡ n

-- the line is four such words with a blank between two, and these are their numbers; that of the flag is 0 or 1
pub record SaysNumbers (line : List ℕ) (n : Numbers) : Type 0 where
  pub delimiter : List ℕ
  pub lenient : List ℕ
  pub bound_length : List ℕ
  pub zone_rows : List ℕ
  pub text : line ≡ delimiter ++ 32 ∷ (lenient ++ 32 ∷ (bound_length ++ 32 ∷ zone_rows))
  pub delimiter_is : SaysNumber delimiter n.delimiter
  pub lenient_is : SaysNumber lenient (if n.is_lenient then 1 else 0)
  pub bound_length_is : SaysNumber bound_length n.bound_length
  pub zone_rows_is : SaysNumber zone_rows n.zone_rows

-- the numbers are those of their types
pub record FitNumbers (n : Numbers) : Type 0 where
  pub delimiter : n.delimiter < 2 ^ 8
  pub bound_length : n.bound_length < 2 ^ 64
  pub zone_rows : n.zone_rows < 2 ^ 64

abbrev pub HaveNames : List ColumnValue → Type 0
HaveNames columns = AllByRecursion (λ c. IsName c.name) columns

abbrev pub AreLines : List (List ℕ) → Type 0
AreLines words = AllByRecursion IsLine words

-- a setup whose text is read back: each column has a name, and each word that is a null is of one line
pub record IsSetup (s : SetupValue) : Type 0 where
  pub numbers : FitNumbers s.numbers
  pub nulls : AreLines s.nulls
  pub names : HaveNames s.columns

-- the byte may be between two fields: it is no line feed, no carriage return and no quote
abbrev pub IsDelimiter : ℕ → Type 0
IsDelimiter byte = (byte ≢ 10) × (byte ≢ 13) × (byte ≢ 34)

-- the schema by which a file is read that has this setup
pub record IsSchema (setup : Setup) (schema : Schema) : Type 0 where
  pub delimiter : schema.delimiter.byte ≡ setup.numbers.delimiter
  pub lenient : schema.reading.is_lenient ≡ setup.numbers.is_lenient
  pub nulls : schema.reading.nulls ≡ texts setup.nulls.items
  pub columns : schema.columns.items ≡ map (λ (named : NamedColumn). named.column) setup.columns.items
