-- The cell of a field.
use Rattle.std.specs.Prelude.{◌≡◌, ℕ, ℤ, List, Ok, IsUtf8, MatchBool}
use Rattle.hex.specs.Hex.{decode_of}
use Rattle.csv_records.specs.Rows.{Field}
use Rattle.vortex_dtype.specs.TypeTree.{TypeTree, binary_type, integer_type, utf8_type}
use Rattle.vortex_dtype.specs.declared.nullability.Nullability.{Nullability}
use Rattle.vortex_dtype.specs.declared.ptype.PType.{PType}
use Rattle.vortex_value.specs.Values.Content.{Content, content, null, string, text, whole}
use Rattle.vortex_value.specs.Values.Scalars.{IsValid, scalar_content, scalar_type}
use Rattle.vortex_value.specs.declared.scalars.Scalar.{Scalar}
use Rattle.logical_scalars.specs.Stored.{logical_tree, raw_storage}
use Rattle.logical_types.specs.Extensions.{storage_type_of}
use Rattle.logical_types.specs.Words.{Writes}
use Rattle.logical_types.specs.declared.logical.LogicalType.{LogicalType}
use Rattle.record_rows.specs.Readings.{Reading, is_null_field}
use Rattle.record_rows.specs.Words.{IsIntegerWord}
use Rattle.record_rows.specs.declared.schema.ColumnType.{ColumnType}
use Rattle.record_rows.specs.declared.schema.Kind.{Kind}
use Rattle.record_rows.specs.declared.schema.Kind.TheVariants as kinds

-- the type of the cells of a column
abbrev pub type_by : Kind → Nullability → TypeTree
type_by (kinds.Integer ptype) n = integer_type ptype n
type_by kinds.Utf8 n = utf8_type n
type_by kinds.Binary n = binary_type n
type_by kinds.Bytes n = binary_type n
type_by (kinds.Logical logical) n = logical_tree logical n

abbrev pub column_type : ColumnType → TypeTree
column_type c = type_by c.kind c.nullability

-- the content of the value of a logical type that has this storage
abbrev pub stored_content : LogicalType → ℤ → Content
stored_content logical z = content (raw_storage (storage_type_of logical) z)

-- the word means this content
abbrev pub Means : Kind → List ℕ → Content → Type 0
Means (kinds.Integer ptype) word c = (z : ℤ) × IsIntegerWord ptype word z × (c ≡ whole z)
Means kinds.Utf8 word c = IsUtf8 word × (c ≡ text word)
Means kinds.Binary word c = (bytes : List ℕ) × (decode_of word ≡ Ok bytes) × (c ≡ string bytes)
Means kinds.Bytes word c = c ≡ string word
Means (kinds.Logical logical) word c = (z : ℤ) × Writes logical word z × (c ≡ stored_content logical z)

-- the content of a field
abbrev pub IsContent : Reading → ColumnType → Field → Content → Type 0
IsContent reading column f c = MatchBool (is_null_field reading column.nullability f) (c ≡ null) (Means column.kind f.text c)

-- x is the cell of a field in a column
pub record IsCell (reading : Reading) (column : ColumnType) (f : Field) (x : Scalar) : Type 0 where
  pub typed : scalar_type x ≡ column_type column
  pub content : IsContent reading column f (scalar_content x)
  pub valid : IsValid x

-- the column does not take the field
abbrev pub HasNoCell : Reading → ColumnType → Field → Type 0
HasNoCell reading column f = (c : Content) → ¬ (IsContent reading column f c)

-- the column takes the field
abbrev pub HasCell : Reading → ColumnType → Field → Type 0
HasCell reading column f = (c : Content) × IsContent reading column f c

-- the word is a value of the kind
abbrev pub HasMeaning : Kind → List ℕ → Type 0
HasMeaning kind word = (c : Content) × Means kind word c

abbrev pub HasNoMeaning : Kind → List ℕ → Type 0
HasNoMeaning kind word = (c : Content) → ¬ (Means kind word c)

-- x is the cell of a word, which is no null
pub record IsValueCell (column : ColumnType) (word : List ℕ) (x : Scalar) : Type 0 where
  pub typed : scalar_type x ≡ column_type column
  pub content : Means column.kind word (scalar_content x)
  pub valid : IsValid x

abbrev pub HasNoValue : ColumnType → List ℕ → Type 0
HasNoValue column word = (c : Content) → ¬ (Means column.kind word c)

-- ---- the cells of each kind

pub record IsIntegerCell (ptype : PType) (n : Nullability) (word : List ℕ) (x : Scalar) : Type 0 where
  pub typed : scalar_type x ≡ integer_type ptype n
  pub number : ℤ
  pub is : IsIntegerWord ptype word number
  pub content : scalar_content x ≡ whole number
  pub valid : IsValid x

pub record IsTextCell (n : Nullability) (word : List ℕ) (x : Scalar) : Type 0 where
  pub typed : scalar_type x ≡ utf8_type n
  pub is : IsUtf8 word
  pub content : scalar_content x ≡ text word
  pub valid : IsValid x

pub record IsBinaryCell (n : Nullability) (word : List ℕ) (x : Scalar) : Type 0 where
  pub typed : scalar_type x ≡ binary_type n
  pub bytes : List ℕ
  pub is : decode_of word ≡ Ok bytes
  pub content : scalar_content x ≡ string bytes
  pub valid : IsValid x

pub record IsBytesCell (n : Nullability) (word : List ℕ) (x : Scalar) : Type 0 where
  pub typed : scalar_type x ≡ binary_type n
  pub content : scalar_content x ≡ string word
  pub valid : IsValid x

pub record IsLogicalCell (logical : LogicalType) (n : Nullability) (word : List ℕ) (x : Scalar) : Type 0 where
  pub typed : scalar_type x ≡ logical_tree logical n
  pub storage : ℤ
  pub is : Writes logical word storage
  pub content : scalar_content x ≡ stored_content logical storage
  pub valid : IsValid x
