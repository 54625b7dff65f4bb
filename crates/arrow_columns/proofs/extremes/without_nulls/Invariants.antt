use Rattle.arrow_columns.specs.Integers.{cell_of_item}
use Rattle.arrow_columns.specs.Running.{IsGreatestBefore, IsLeastBefore}
use Rattle.arrow_columns.proofs.extremes.without_nulls.Given as goal

abbrev pub invariant-loop-i : goal.invariant-loop-i
invariant-loop-i g l = record {
  least : IsLeastBefore (cell_of_item g.T.Item.kind l.validity l.items) l.from l.i (g.T.Item.number l.least);
  greatest : IsGreatestBefore (cell_of_item g.T.Item.kind l.validity l.items) l.from l.i (g.T.Item.number l.greatest);
}
