use Rattle.arrow_columns.specs.Integers.{cell_of_item}
use Rattle.arrow_columns.specs.Running.{AreGathered}
use Rattle.arrow_columns.proofs.extremes.by_rows.Given as goal

abbrev pub invariant-loop-i : goal.invariant-loop-i
invariant-loop-i g l = AreGathered g.T.Item.number (cell_of_item g.T.Item.kind l.validity l.items) l.from l.i (record { null_count = l.null_count; least = l.least; greatest = l.greatest })
