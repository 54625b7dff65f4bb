use Rattle.std.proofs.Common.{◌≡◌, ◌≤◌, ◌-◌}
use Rattle.std.specs.Option.{is_none}
use Rattle.arrow_columns.specs.Bitmaps.{bit_of}
use Rattle.arrow_columns.specs.Cells.{cell_at}
use Rattle.arrow_columns.specs.Statistics.{is_false_cell, is_true_cell}
use Rattle.arrow_columns.proofs.CellLists.{count_from}
use Rattle.arrow_columns.proofs.booleans.statistics_of_bits.Given as goal

abbrev pub invariant-loop-i : goal.invariant-loop-i
invariant-loop-i l = record {
  nulls_within : l.null_count ≤ l.i - l.from;
  falses_within : l.false_count ≤ l.i - l.from;
  trues_within : l.true_count ≤ l.i - l.from;
  nulls_counted : l.null_count ≡ count_from is_none (cell_at l.validity (bit_of l.values)) l.from (l.i - l.from);
  falses_counted : l.false_count ≡ count_from is_false_cell (cell_at l.validity (bit_of l.values)) l.from (l.i - l.from);
  trues_counted : l.true_count ≡ count_from is_true_cell (cell_at l.validity (bit_of l.values)) l.from (l.i - l.from);
}
