-- The first field of a text, and what follows it.
use Rattle.std.specs.Prelude.{◌≡◌, ◌≢◌, ◌⊎◌, ◌<◌, ℕ, List, [], ◌∷◌, Bool, length, slice_index}
use Rattle.std.specs.List.{onto_first}
use Rattle.csv.specs.declared.parser.State.{State}
use Rattle.csv_records.specs.Rows.{Field, field_rows, rows_from}
use Rattle.csv_records.specs.declared.fields.Follows.{Follows}
use Rattle.csv_records.specs.declared.fields.Follows.TheVariants.{Another, Nothing, Row}

-- from this state on, with the field at hand so far, the field is first, and the fields of what is left follow it
pub record IsFollowed (delimiter : ℕ) (s : State) (text : List ℕ) (quoted : Bool) (bytes : List ℕ) (field : Field) (rest : List ℕ) : Type 0 where
  pub rows : rows_from delimiter s text quoted bytes ≡ onto_first field (field_rows delimiter rest)
  pub shorter : length rest < length bytes

-- the field is the last of the first row, and other rows follow
pub record EndsRow (field : Field) (rows : List (List Field)) : Type 0 where
  pub next : List Field
  pub others : List (List Field)
  pub is : rows ≡ (field ∷ []) ∷ next ∷ others

-- what a cut of the first field answers
abbrev pub IsCut : ℕ → State → List ℕ → Bool → List ℕ → Field → Follows → Type 0
IsCut delimiter s text quoted bytes field (Another rest) = IsFollowed delimiter s text quoted bytes field rest.now
IsCut delimiter s text quoted bytes field Nothing = rows_from delimiter s text quoted bytes ≡ (field ∷ []) ∷ []
IsCut delimiter s text quoted bytes field Row = EndsRow field (rows_from delimiter s text quoted bytes)

-- bytes that do not begin with a quote
abbrev pub BeginsBare : List ℕ → Type 0
BeginsBare [] = Unit {0}
BeginsBare (c ∷ rest) = c ≢ 34

-- bytes that begin with what ends a field without quotes
abbrev pub HasNoFront : ℕ → List ℕ → Type 0
HasNoFront delimiter [] = Unit {0}
HasNoFront delimiter (c ∷ rest) = (c ≡ delimiter) ⊎ (c ≡ 13) ⊎ (c ≡ 10)

-- bytes that only join a field without quotes
abbrev pub AreBare : ℕ → List ℕ → Type 0
AreBare delimiter xs = (k : ℕ) → k < length xs → (slice_index xs k ≢ delimiter) × (slice_index xs k ≢ 13) × (slice_index xs k ≢ 10)
