-- What was read and what is still read is all, what is wrong is still to come, and what was read is valid.
use Rattle.std.proofs.Common.{◌≡◌, length, map}
use Rattle.vortex_dtype.specs.TypeOf.{type_of}
use Rattle.vortex_cells.specs.Cells.{cell_of}
use Rattle.vortex_filter.specs.FilterLiterals.{AreValid}
use Rattle.filter_sql.specs.Tokens.{trees}
use Rattle.filter_sql.specs.Mistakes.{more_mistake}
use Rattle.filter_sql.specs.Reading.{more_cells, with_front}
use Rattle.filter_sql.proofs.parsing.conditions.more_cells.Given as goal

abbrev pub invariant-loop-after : goal.invariant-loop-after
invariant-loop-after l =
    (with_front (map cell_of l.literals.items) (more_cells (type_of l.dtype) (trees l.rest)) ≡ with_front (map cell_of l.initial.literals.items) (more_cells (type_of l.dtype) (trees l.initial.rest)))
    × (more_mistake (type_of l.dtype) (trees l.rest) ≡ more_mistake (type_of l.dtype) (trees l.initial.rest))
    × (AreValid l.initial.literals.items → AreValid l.literals.items)

abbrev pub decreases-loop-after : goal.decreases-loop-after
decreases-loop-after l = length l.rest
