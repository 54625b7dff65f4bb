-- The columns that a text names.
use Rattle.std.specs.Prelude.{◌==◌, ◌&&◌, ◌^◌, ℕ, zero, suc, List, length, map, Option, Some, None, if◌then◌else◌, nat_lt, slice_get, slice_index, drop, option_and_then}
use Rattle.std.specs.List.{position_from}
use Rattle.std.specs.Str.{all_ascii_digits, bytes_eq}
use Rattle.std.specs.Str.Parse.{digits_value}
use Rattle.std.specs.String.{string_bytes}
use Rattle.vortex_dtype.specs.TypeOf.{type_of}
use Rattle.vortex_dtype.specs.TypeTree.{TypeTree}
use Rattle.filter_sql.specs.declared.column.Column.{Column}

-- a column without where it lies in memory
pub record ColumnTree : Type 0 where
  pub name : List ℕ
  pub typed : TypeTree

abbrev pub column_tree : Column → ColumnTree
column_tree c = record { name = string_bytes c.name; typed = type_of c.dtype }

abbrev pub column_trees : List Column → List ColumnTree
column_trees columns = map column_tree columns

-- the place of the first column with this name
abbrev pub named_place : List ColumnTree → List ℕ → Option ℕ
named_place columns name = position_from (λ (c : ColumnTree). bytes_eq c.name name) 0 columns

-- the number that digits say, below 2 ^ 64
unfoldable pub digits_number : List ℕ → Option ℕ
digits_number digits = if all_ascii_digits digits && (nat_lt 0 (length digits) && nat_lt (digits_value 10 digits) (2 ^ 64)) then Some (digits_value 10 digits) else None

abbrev pub place_before : ℕ → Option ℕ
place_before zero = None
place_before (suc n) = Some n

-- the place that $1, $2 and so on stand for
unfoldable pub numbered_place : List ℕ → Option ℕ
numbered_place name = if slice_index name 0 == 36 then option_and_then place_before (digits_number (drop 1 name)) else None

abbrev pub or_numbered : List ℕ → Option ℕ → Option ℕ
or_numbered name None = numbered_place name
or_numbered name (Some k) = Some k

abbrev pub typed_place : ℕ → Option ColumnTree → Option (ℕ × TypeTree)
typed_place k None = None
typed_place k (Some c) = Some (k, c.typed)

abbrev pub column_there : List ColumnTree → Option ℕ → Option (ℕ × TypeTree)
column_there columns None = None
column_there columns (Some k) = typed_place k (slice_get columns k)

-- the place and the type of the first column with this name; if there is none, $1 is the first column, and so on
unfoldable pub column_named : List ColumnTree → List ℕ → Option (ℕ × TypeTree)
column_named columns name = column_there columns (or_numbered name (named_place columns name))
