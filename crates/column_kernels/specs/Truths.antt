-- What tests say of the values of a column, as words have it.
use Rattle.std.specs.Prelude.{◌≡◌, ℕ, ℤ, ◌+◌, ◌<◌, Bool, false, List, Option, None, Some}
use Rattle.std.specs.declared.cmp.Ordering.{Ordering}
use Rattle.arrow_columns.specs.Bitmaps.{bit_of, is_valid}
use Rattle.arrow_columns.specs.Cells.{cell_at}
use Rattle.arrow_columns.specs.Columns.{offset_in}
use Rattle.arrow_columns.specs.Integers.{item_at, number_of}
use Rattle.arrow_columns.specs.Offsets.{bytes_between}
use Rattle.arrow_columns.specs.declared.columns.Column.{Column}
use Rattle.arrow_columns.specs.declared.kinds.ItemKind.{ItemKind}
use Rattle.arrow_columns.specs.declared.offset_width.OffsetWidth.{OffsetWidth}
use Rattle.truth_bitmaps.specs.Truths.{truth_at}
use Rattle.truth_bitmaps.specs.declared.words.TruthWord.{TruthWord}
use Rattle.vortex_filter.specs.Operators.{holds}
use Rattle.vortex_filter.specs.declared.operator.CompareOperator.{CompareOperator}

-- the words have the truth values of so many rows
abbrev pub AreTruths : (ℕ → Option Bool) → ℕ → List TruthWord → Type 0
AreTruths truth count words = (row : ℕ) → row < count → truth_at words row ≡ truth row

-- what a test says of a value, or of none
abbrev pub tested : {X : Type 0} → (X → Bool) → Option X → Option Bool
tested test None = None
tested test (Some x) = Some (test x)

-- the same, False of none
abbrev pub if_value : {X : Type 0} → (X → Bool) → Option X → Bool
if_value test None = false
if_value test (Some x) = test x

-- what a comparison says of a value, or of none, by how the value stands to the literal
abbrev pub compared : {X : Type 0} → CompareOperator → (X → Ordering) → Option X → Option Bool
compared op order = tested (λ x. holds op (order x))

-- whether a row of a column is no null
abbrev pub is_valid_row : Column → ℕ → Bool
is_valid_row column row = is_valid column.validity.now (column.offset + row)

-- the number of a row of a column whose items have so many bytes, or none where it is null
abbrev pub number_cell : ℕ → ItemKind → Column → ℕ → Option ℤ
number_cell width kind column row = cell_at column.validity.now (λ i. number_of kind (item_at width column.values.now i)) (column.offset + row)

-- the same of booleans, and of strings and bytes
abbrev pub boolean_cell : Column → ℕ → Option Bool
boolean_cell column row = cell_at column.validity.now (bit_of column.values.now) (column.offset + row)

abbrev pub byte_cell : OffsetWidth → Column → ℕ → Option (List ℕ)
byte_cell width column row = cell_at column.validity.now (bytes_between column.values.now (offset_in width column)) (column.offset + row)
