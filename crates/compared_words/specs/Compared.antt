-- Words of records, and the literal that a filter compares them with.
use Rattle.std.specs.Prelude.{◌≡◌, ◌⊎◌, ◌-◌, ◌^◌, ◌*ℤ◌, ℕ, ℤ, pos, Contains, List, [], ◌∷◌, Some, false, true, slice_get}
use Rattle.std.specs.Float.{Float, Format, binary32, binary64}
use Rattle.std.specs.Float.Parse.{parse_float}
use Rattle.std.specs.Ordering.{int_cmp, nan_last_cmp}
use Rattle.csv_records.specs.Rows.{Field, rows_of}
use Rattle.float_storage.specs.Storage.{storage_of}
use Rattle.logical_types.specs.Floats.{storage_written}
use Rattle.logical_types.specs.Places.{fine_scale, number_at}
use Rattle.logical_types.specs.Words.{Writes}
use Rattle.logical_types.specs.declared.logical.DecimalType.{DecimalType}
use Rattle.logical_types.specs.declared.logical.LogicalType.{LogicalType}
use Rattle.logical_types.specs.declared.logical.LogicalType.TheVariants.{Decimal, Float32, Float64}
use Rattle.record_rows.specs.Cells.{column_type}
use Rattle.record_rows.specs.Readings.{is_null_field}
use Rattle.record_rows.specs.declared.schema.ColumnType.{ColumnType}
use Rattle.record_rows.specs.declared.schema.Kind.TheVariants as kinds
use Rattle.record_rows.specs.declared.schema.Schema.{Schema}
use Rattle.record_search.specs.Searched.{DescribeRows, decision_of, has_row}
use Rattle.vortex_filter.specs.Formula.{Formula}
use Rattle.vortex_filter.specs.Literals.{LiteralTree, number_literal, position_of, text_literal}
use Rattle.vortex_filter.specs.Operators.{holds}
use Rattle.vortex_filter.specs.Positions.{PositionTree, comparison_of}
use Rattle.vortex_filter.specs.declared.operator.CompareOperator.{CompareOperator}
use Rattle.zone_index.specs.declared.records.Decision.{Decision}
use Rattle.zone_index.specs.declared.records.Decision.TheVariants.{NoneMatch}

-- the record is a row of the schema, and has this word in column k, of a logical type: the text of a field that is no null
pub record HasWord (s : Schema) (k : ℕ) (logical : LogicalType) (line word : List ℕ) : Type 0 where
  pub row : has_row s line ≡ true
  pub fields : List Field
  pub read : rows_of s.delimiter.byte line ≡ fields ∷ []
  pub field : Field
  pub there : slice_get fields k ≡ Some field
  pub text : field.text ≡ word
  pub column : ColumnType
  pub declared : slice_get s.columns.items k ≡ Some column
  pub kind : column.kind ≡ kinds.Logical logical
  pub value : is_null_field s.reading column.nullability field ≡ false

-- the filter asks which values of column k compare so with a literal, written as a number or as a string
pub record AsksFor (s : Schema) (k : ℕ) (op : CompareOperator) (literal : List ℕ) (f : Formula) : Type 0 where
  pub column : ColumnType
  pub declared : slice_get s.columns.items k ≡ Some column
  pub tree : LiteralTree
  pub written : (tree ≡ number_literal literal) ⊎ (tree ≡ text_literal literal)
  pub position : PositionTree
  pub stands : position_of (column_type column) tree ≡ Some position
  pub is : f ≡ comparison_of k op position

-- a record has the word in the column, and statistics that are right for it and others decide this of a comparison with the literal
pub record IsWordDecided (decision : Decision) (k : ℕ) (logical : LogicalType) (op : CompareOperator) (literal word : List ℕ) : Type 0 where
  pub schema : Schema
  pub filter : Formula
  pub asked : AsksFor schema k op literal filter
  pub records : List (List ℕ)
  pub statistics : List ℕ
  pub right : DescribeRows schema statistics records
  pub decided : decision_of schema.columns.items filter statistics ≡ decision
  pub line : List ℕ
  pub among : Contains records line
  pub has : HasWord schema k logical line word

-- a record of those that are left out by a comparison with the literal has the word in the column
abbrev pub IsWordLeftOut : ℕ → LogicalType → CompareOperator → List ℕ → List ℕ → Type 0
IsWordLeftOut = IsWordDecided NoneMatch

-- the word is read as this float, which is the nearest to the number that it writes: not as infinity, unless it names that
pub record ReadsAs (f : Format) (word : List ℕ) (x : Float) : Type 0 where
  pub float : parse_float f word ≡ Some x
  pub kept : storage_written f word ≡ Some (storage_of f x)

-- no float of such a word compares so with that of the literal
abbrev pub FloatsAreCompared : Format → LogicalType → Type 0
FloatsAreCompared f logical = (k : ℕ) (op : CompareOperator) (literal word : List ℕ) (x number : Float) → IsWordLeftOut k logical op literal word
    → ReadsAs f word x → ReadsAs f literal number → holds op (nan_last_cmp x number) ≡ false

-- how many places the digits of a literal take, or the values of the column
abbrev pub places_of : DecimalType → List ℕ → ℕ
places_of d literal = fine_scale d.scale literal

-- No decimal of such a word compares so with the literal's number, which may have digits that the column has no places for. Both are
-- counted in the last of the literal's places.
abbrev pub DecimalsAreCompared : Type 0
DecimalsAreCompared = (k : ℕ) (d : DecimalType) (op : CompareOperator) (literal word : List ℕ) (y number : ℤ) → IsWordLeftOut k (Decimal d) op literal word
    → Writes (Decimal d) word y → number_at (places_of d literal) literal ≡ Some number
    → holds op (int_cmp (y *ℤ pos (10 ^ (places_of d literal - d.scale))) number) ≡ false

-- no value of such a word compares so with that of the literal
pub record WordsAreCompared : Type 0 where
  pub values : (k : ℕ) (logical : LogicalType) (op : CompareOperator) (literal word : List ℕ) (y z : ℤ) → IsWordLeftOut k logical op literal word
      → Writes logical word y → Writes logical literal z → holds op (int_cmp y z) ≡ false
  pub doubles : FloatsAreCompared binary64 Float64
  pub singles : FloatsAreCompared binary32 Float32
  pub decimals : DecimalsAreCompared
