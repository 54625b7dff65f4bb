-- The rest of the literals decides.
use Rattle.std.proofs.Common.{◌≡◌, drop, map}
use Rattle.std.specs.List.{list_any}
use Rattle.vortex_cells.specs.Cells.{cell_of}
use Rattle.filter_sql.specs.Choosing.{is_logical_cell}
use Rattle.filter_sql.proofs.literal_words.any_logical.Given as goal

abbrev pub invariant-loop-literal : goal.invariant-loop-literal
invariant-loop-literal l = list_any is_logical_cell (map cell_of (drop l.literal-index l.literals)) ≡ list_any is_logical_cell (map cell_of l.literals)
