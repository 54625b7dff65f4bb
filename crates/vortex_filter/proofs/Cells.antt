-- Cells as the code reads them.
use Rattle.std.proofs.Common.{◌≡◌, ℕ, List, map, slice_get, option_map, refl, ap, ◌∙◌}
use Rattle.std.proofs.lemmas.Option.{slice_get-map}
use Rattle.vortex_value.specs.Values.Content.{content}
use Rattle.vortex_value.specs.Values.RawTree.{RawTree, absent, is_absent}
use Rattle.vortex_value.specs.Values.Scalars.{IsMadeOf, scalar_raw, scalar_type}
use Rattle.vortex_value.specs.declared.scalars.Scalar.{Scalar}
use Rattle.vortex_cells.specs.Cells.{Cell, cell_of, cell_or_null, is_null_cell, is_null_content}
use Rattle.vortex_filter.specs.Formula.{cell_at}

-- the cell of a row, by the scalar that stands there
pub cell_is : (row : List Scalar) (k : ℕ) → cell_at (map cell_of row) k ≡ cell_or_null (option_map cell_of (slice_get row k))
cell_is row k = ap cell_or_null (slice_get-map cell_of row k)

raw_null : (v : RawTree) → is_null_content (content v) ≡ is_absent v
raw_null absent = refl
raw_null _ = refl

pub null_is : (x : Scalar) → is_null_cell (cell_of x) ≡ is_absent (scalar_raw x)
null_is x = raw_null (scalar_raw x)

-- what is made of the same type and raw value is the same cell
pub made_cell : (x y : Scalar) → IsMadeOf (scalar_type x) (scalar_raw x) y → cell_of y ≡ cell_of x
made_cell x y m =
    ap (λ t. let c : Cell = record { typed = t; content = content (scalar_raw y) } in c) m.typed
    ∙ ap (λ v. let c : Cell = record { typed = scalar_type x; content = content v } in c) m.value
