-- The literals so far are values.
use Rattle.std.proofs.Common.{drop, map}
use Rattle.vortex_cells.specs.Cells.{cell_of}
use Rattle.filter_encoding.proofs.NoValueLaws.{Walked}
use Rattle.filter_encoding.proofs.values.behind_literals.Given as goal

abbrev pub invariant-loop-literal : goal.invariant-loop-literal
invariant-loop-literal l = Walked l.offset l.end (map cell_of l.literals) (map cell_of (drop l.literal-index l.literals))
