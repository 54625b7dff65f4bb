-- Rows that are the same in some columns.
use Rattle.std.specs.Prelude.{◌≡◌, ℕ, List, Bool, true, Option, None, Some}
use Rattle.record_rows.specs.Rows.{is_wanted}
use Rattle.vortex_filter.specs.Formula.{cell_at}
use Rattle.vortex_cells.specs.Cells.{Cell}

-- the rows have the same cell in each column that is wanted
abbrev pub AgreeInWanted : List Bool → List Cell → List Cell → Type 0
AgreeInWanted wanted xs ys = (k : ℕ) → is_wanted wanted k ≡ true → cell_at xs k ≡ cell_at ys k

-- both are rows, which agree, or none is
abbrev pub AgreeAsRows : List Bool → Option (List Cell) → Option (List Cell) → Type 0
AgreeAsRows wanted None None = Unit {0}
AgreeAsRows wanted None (Some ys) = ⊥
AgreeAsRows wanted (Some xs) None = ⊥
AgreeAsRows wanted (Some xs) (Some ys) = AgreeInWanted wanted xs ys
