-- The cells of a column: for each row a value, or none where the row is null.
use Rattle.std.specs.Prelude.{ℕ, List, map, Option, Some, None, if◌then◌else◌}
use Rattle.std.specs.List.{range_with_len}
use Rattle.arrow_columns.specs.Bitmaps.{is_valid}

-- row i, if its value is this
abbrev pub cell_at : {X : Type 0} → List ℕ → (ℕ → X) → ℕ → Option X
cell_at validity value i = if is_valid validity i then Some (value i) else None

-- the cells of so many rows from a first one on
abbrev pub cells_from : {X : Type 0} → List ℕ → (ℕ → X) → ℕ → ℕ → List (Option X)
cells_from validity value offset count = map (cell_at validity value) (range_with_len offset count)
