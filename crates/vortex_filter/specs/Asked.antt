-- What a test asks of its column, as the code lends it.
use Rattle.std.specs.Prelude.{[], ◌∷◌, map}
use Rattle.vortex_cells.specs.Cells.{Cell, cell_of}
use Rattle.vortex_filter.specs.declared.check.Asked.{Asked}
use Rattle.vortex_filter.specs.declared.check.Asked.TheVariants.{Nothing, Literal, Literals, Ends, Beginning, Matching}
use Rattle.vortex_filter.specs.Checking.{Demand, beginning, comparing, matching, nothing}

-- what a test asks, with its literals as cells
abbrev pub demand_of : Asked → Demand Cell
demand_of Nothing = nothing
demand_of (Literal x) = comparing (cell_of x.now ∷ [])
demand_of (Literals xs) = comparing (map cell_of xs.now)
demand_of (Ends x y) = comparing (cell_of x.now ∷ cell_of y.now ∷ [])
demand_of (Beginning p) = beginning (cell_of p.now)
demand_of Matching = matching
