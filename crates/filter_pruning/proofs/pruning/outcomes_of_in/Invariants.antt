-- What the comparisons with the literals so far can be together.
use Rattle.std.proofs.Common.{◌≡◌, map, option_map, take}
use Rattle.std.specs.Option.{option_copied}
use Rattle.vortex_cells.specs.Cells.{cell_of}
use Rattle.vortex_statistics.specs.Statistics.{known}
use Rattle.filter_pruning.specs.Outcomes.{member_outcomes}
use Rattle.filter_pruning.proofs.pruning.outcomes_of_in.Given as goal

abbrev pub invariant-loop-literal : goal.invariant-loop-literal
invariant-loop-literal l = l.any ≡ member_outcomes (option_map known (option_copied l.statistics)) (map cell_of (take l.literal-index l.literals))
