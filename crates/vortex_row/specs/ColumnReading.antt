-- What the reading of columns answers: the values whose keys come, or why bytes are refused.
use Rattle.std.specs.Prelude.{◌≡◌, ℕ, ◌+◌, ◌≤◌, ◌⊎◌, List, [], ◌∷◌, ◌++◌, drop, length, map}
use Rattle.vortex_dtype.specs.TypeTree.{TypeTree, TypeTrees, no_types, type_then}
use Rattle.vortex_value.specs.Validity.{Valid}
use Rattle.vortex_value.specs.Values.Content.{content}
use Rattle.vortex_value.specs.Values.RawTree.{RawTree}
use Rattle.vortex_value.specs.Values.Scalars.{scalar_content, scalar_raw, scalar_type}
use Rattle.vortex_value.specs.declared.scalars.Scalar.{Scalar}
use Rattle.vortex_row.specs.Columns.{key_with, row_key}
use Rattle.vortex_row.specs.Decoded.{values_key}
use Rattle.vortex_row.specs.Reading.{IsPlain, IsStuck}
use Rattle.vortex_row.specs.declared.error.RowError.{RowError}
use Rattle.vortex_row.specs.declared.error.RowError.TheVariants.{BadKey, OutOfMemory}
use Rattle.vortex_row.specs.declared.options.SortOptions.{SortOptions}

-- the key of a value of the type that keys can have, in a column that is sorted by o
pub record IsColumnKey (o : SortOptions) (t : TypeTree) (bs : List ℕ) : Type 0 where
  pub value : RawTree
  pub plain : IsPlain (Valid t) value
  pub is : bs ≡ key_with o (content value)

-- the bytes begin with the key of v in such a column, which has so many
pub record HasColumn (o : SortOptions) (t : TypeTree) (v : RawTree) (bytes : List ℕ) (n : ℕ) : Type 0 where
  pub plain : IsPlain (Valid t) v
  pub is : bytes ≡ key_with o (content v) ++ drop n bytes
  pub count : n ≡ length (key_with o (content v))

-- why bytes are refused: no memory, or an offset from which they go on as no string does
abbrev pub IsRefusal : (List ℕ → Type 0) → List ℕ → RowError → Type 0
IsRefusal Is bytes e = (e ≡ OutOfMemory) ⊎ ((place : ℕ) × (e ≡ BadKey place) × (place ≤ length bytes) × IsStuck Is bytes (drop place bytes))

-- as many values as types, each such a value of its type
abbrev pub ArePlainOf : TypeTrees → List RawTree → Type 0
ArePlainOf no_types [] = Unit {0}
ArePlainOf (type_then t ts) (v ∷ vs) = IsPlain (Valid t) v × ArePlainOf ts vs
ArePlainOf _ _ = ⊥

-- the key of a row of such values
pub record AreColumnKeys (os : List SortOptions) (ts : TypeTrees) (bs : List ℕ) : Type 0 where
  pub values : List RawTree
  pub plain : ArePlainOf ts values
  pub is : bs ≡ values_key os values

-- as many scalars as types, each of its type and with such a value
abbrev pub AreScalars : TypeTrees → List Scalar → Type 0
AreScalars no_types [] = Unit {0}
AreScalars (type_then t ts) (x ∷ xs) = ((scalar_type x ≡ t) × IsPlain (Valid t) (scalar_raw x)) × AreScalars ts xs
AreScalars _ _ = ⊥

-- the key of a row of scalars
abbrev pub scalars_key : List SortOptions → List Scalar → List ℕ
scalars_key os xs = row_key os (map scalar_content xs)

-- the bytes begin with the key of a row of these scalars, which has so many
pub record HasRow (os : List SortOptions) (ts : TypeTrees) (xs : List Scalar) (bytes : List ℕ) (n : ℕ) : Type 0 where
  pub scalars : AreScalars ts xs
  pub is : bytes ≡ scalars_key os xs ++ drop n bytes
  pub count : n ≡ length (scalars_key os xs)

-- the bytes from an offset on begin with the key of the value of x, a scalar of the type; next is the offset after it
pub record HasColumnAt (o : SortOptions) (t : TypeTree) (x : Scalar) (bytes : List ℕ) (place next : ℕ) : Type 0 where
  pub typed : scalar_type x ≡ t
  pub width : ℕ
  pub column : HasColumn o t (scalar_raw x) (drop place bytes) width
  pub after : next ≡ place + width

-- why bytes from an offset on are refused; the offset of a bad byte counts from their first
abbrev pub IsRefusalAt : (List ℕ → Type 0) → List ℕ → ℕ → RowError → Type 0
IsRefusalAt Is bytes start e =
    (e ≡ OutOfMemory) ⊎ ((place : ℕ) × (e ≡ BadKey (start + place)) × (place ≤ length (drop start bytes)) × IsStuck Is (drop start bytes) (drop place (drop start bytes)))

-- the refusal of a row by that of a column: where rows have no value, their first byte is bad
abbrev pub IsOfRow : Type 0 → RowError → RowError → Type 0
IsOfRow Rows column e = ((e ≡ column) × ((place : ℕ) → column ≡ BadKey place → Rows)) ⊎ ((e ≡ BadKey 0) × ¬ Rows)
