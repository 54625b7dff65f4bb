use Rattle.std.proofs.Common.{◌≡◌, ◌≤ℤ◌, ◌+◌, ◌-◌, ◌*◌, slice_index}
use Rattle.arrow_columns.specs.Integers.{cell_of_item}
use Rattle.arrow_columns.specs.Running.{AreGathered, IsGreatestBefore, IsLeastBefore, nulls_from}
use Rattle.arrow_columns.proofs.BitCounts.{zeros_below}
use Rattle.arrow_columns.proofs.extremes.by_bytes.Given as goal

abbrev pub invariant-loop-b : goal.invariant-loop-b
invariant-loop-b g l = record {
  gathered : AreGathered g.T.Item.number (cell_of_item g.T.Item.kind l.validity l.items) l.from (8 * l.b) (record { null_count = l.null_count; least = l.least; greatest = l.greatest });
  low : g.T.Item.number l.least ≤ℤ g.T.Item.number l.low;
  high : g.T.Item.number l.high ≤ℤ g.T.Item.number l.greatest;
}

abbrev pub invariant-loop-j : goal.invariant-loop-j
invariant-loop-j g l = record {
  nulls : l.null_count + zeros_below (slice_index l.validity l.b) l.j ≡ nulls_from (cell_of_item g.T.Item.kind l.validity l.items) l.from (8 * l.b + l.j - l.from);
  least : IsLeastBefore (cell_of_item g.T.Item.kind l.validity l.items) l.from (8 * l.b + l.j) (g.T.Item.number l.least);
  greatest : IsGreatestBefore (cell_of_item g.T.Item.kind l.validity l.items) l.from (8 * l.b + l.j) (g.T.Item.number l.greatest);
  low : g.T.Item.number l.least ≤ℤ g.T.Item.number l.low;
  high : g.T.Item.number l.high ≤ℤ g.T.Item.number l.greatest;
}
