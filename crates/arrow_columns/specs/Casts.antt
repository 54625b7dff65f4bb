-- Casts of integers from one kind to another.
use Rattle.std.specs.Prelude.{◌≡◌, ℕ, ℤ, pos, ◌+◌, ◌-◌, ◌<◌, ◌≤◌, IsSomeAnd, List, slice_get, Option, Some, unwrap_or}
use Rattle.std.specs.Option.{IfSome}
use Rattle.arrow_columns.specs.Integers.{IsOfKind, integer_of, item_at, width_of}
use Rattle.arrow_columns.specs.declared.kinds.IntegerKind.{IntegerKind}

-- the bytes have an item of the kind, of so many bytes, for each cell: its value, or 0 where it is null
abbrev pub AreCastItems : IntegerKind → ℕ → List (Option ℤ) → List ℕ → Type 0
AreCastItems kind width cells bytes = (row : ℕ) (cell : Option ℤ) → slice_get cells row ≡ Some cell → integer_of kind (item_at width bytes row) ≡ unwrap_or cell (pos 0)

-- the same of items as wide as the kind's
abbrev pub AreCastTo : IntegerKind → List (Option ℤ) → List ℕ → Type 0
AreCastTo kind cells bytes = AreCastItems kind (width_of kind) cells bytes

-- the cell of this row has a value that the kind does not have, and it is the first such one
abbrev pub IsFirstWithout : IntegerKind → List (Option ℤ) → ℕ → Type 0
IsFirstWithout kind cells row =
    (z : ℤ) × (slice_get cells row ≡ Some (Some z)) × ¬ (IsOfKind kind z)
    × ((k : ℕ) (x : ℤ) → k < row → slice_get cells k ≡ Some (Some x) → IsOfKind kind x)

-- the kind has the integers of the rows from a first one on, before an end
abbrev pub AllFit : IntegerKind → (ℕ → Option ℤ) → ℕ → ℕ → Type 0
AllFit kind cell from end = (k : ℕ) → k < end → from ≤ k → IfSome (cell k) (IsOfKind kind)

-- of these rows, row i is the first whose integer the kind does not have
abbrev pub IsFirstUnfit : IntegerKind → (ℕ → Option ℤ) → ℕ → ℕ → ℕ → Type 0
IsFirstUnfit kind cell from end i = (i < end) × (from ≤ i) × AllFit kind cell from i × IsSomeAnd (cell i) (λ z. ¬ (IsOfKind kind z))

-- the bytes have the items of the rows before row i: the value of each, or 0 where it is null
abbrev pub AreWritten : IntegerKind → ℕ → (ℕ → Option ℤ) → ℕ → ℕ → List ℕ → Type 0
AreWritten kind width cell from i bytes = (k : ℕ) → k < i - from → integer_of kind (item_at width bytes k) ≡ unwrap_or (cell (from + k)) (pos 0)
