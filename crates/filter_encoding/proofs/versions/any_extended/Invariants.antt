-- The rest decides.
use Rattle.std.proofs.Common.{◌≡◌, drop, map}
use Rattle.std.specs.List.{list_any}
use Rattle.vortex_cells.specs.Cells.{cell_of}
use Rattle.filter_encoding.specs.Encoding.{is_extended}
use Rattle.filter_encoding.proofs.versions.any_extended.Given as goal

abbrev pub invariant-loop-literal : goal.invariant-loop-literal
invariant-loop-literal l = list_any is_extended (map cell_of (drop l.literal-index l.literals)) ≡ list_any is_extended (map cell_of l.literals)
