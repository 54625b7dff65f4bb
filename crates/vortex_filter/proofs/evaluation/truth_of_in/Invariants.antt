-- What the literals so far say together.
use Rattle.std.proofs.Common.{◌≡◌, map, take}
use Rattle.vortex_cells.specs.Cells.{cell_of}
use Rattle.vortex_filter.specs.Formula.{lent_cell, member_truth}
use Rattle.vortex_filter.proofs.evaluation.truth_of_in.Given as goal

abbrev pub invariant-loop-literal : goal.invariant-loop-literal
invariant-loop-literal l = l.any ≡ member_truth (lent_cell l.cell) (map cell_of (take l.literal-index l.literals))
