-- The cells of a record that are wanted, where it has a row.
use Rattle.std.specs.Prelude.{◌≡◌, ◌<◌, ◌≤◌, ◌++◌, ℕ, suc, List, [], ◌∷◌, Bool, true, length}
use Rattle.csv_records.specs.Rows.{Field, field_rows, rows_of}
use Rattle.vortex_value.specs.declared.scalars.Scalar.{Scalar}
use Rattle.record_rows.specs.Readings.{Reading}
use Rattle.record_rows.specs.Rows.{IsTaken, fitted, is_wanted}
use Rattle.record_rows.specs.declared.schema.ColumnType.{ColumnType}

-- x is the cell of the field, or a null in its place, if it is wanted
abbrev pub IsReadWhere : Bool → Reading → ColumnType → Field → Scalar → Type 0
IsReadWhere wanted reading column f x = wanted ≡ true → (flag : Bool) × IsTaken reading column f x flag

-- of the columns from k on, each scalar is read of its field where that is wanted; behind these fields anything may stand
abbrev pub AreCellsWhere : List Bool → ℕ → Reading → List ColumnType → List Field → List Scalar → Type 0
AreCellsWhere wanted k reading columns [] row = Unit {0}
AreCellsWhere wanted k reading [] (f ∷ fs) row = ⊥
AreCellsWhere wanted k reading (c ∷ cs) (f ∷ fs) [] = ⊥
AreCellsWhere wanted k reading (c ∷ cs) (f ∷ fs) (x ∷ xs) = IsReadWhere (is_wanted wanted k) reading c f x × AreCellsWhere wanted (suc k) reading cs fs xs

-- these are the first fields of the row, if it is the only one
abbrev pub AreFirst : Reading → List ColumnType → List (List Field) → List Field → Type 0
AreFirst reading columns rows fields = (all : List Field) → rows ≡ all ∷ [] → (more : List Field) × (fitted reading.is_lenient columns all ≡ fields ++ more)

-- the scalars are the cells of the row with these fields that are wanted
pub record AreWanted (wanted : List Bool) (reading : Reading) (columns : List ColumnType) (rows : List (List Field)) (row : List Scalar) : Type 0 where
  pub fields : List Field
  pub first : AreFirst reading columns rows fields
  pub cells : AreCellsWhere wanted 0 reading columns fields row
  pub past : (k : ℕ) → is_wanted wanted k ≡ true → k < length columns → k < length fields
  pub few : length row ≤ length columns

-- the same of a record
abbrev pub HasWanted : List Bool → ℕ → Reading → List ColumnType → List ℕ → List Scalar → Type 0
HasWanted wanted delimiter reading columns line row = AreWanted wanted reading columns (rows_of delimiter line) row

-- one scalar more stands, which is read of this field if that is wanted
pub record PutsCell (wanted : Bool) (reading : Reading) (column : ColumnType) (f : Field) (old new : List Scalar) : Type 0 where
  pub cell : Scalar
  pub is : IsReadWhere wanted reading column f cell
  pub pushed : new ≡ old ++ cell ∷ []
