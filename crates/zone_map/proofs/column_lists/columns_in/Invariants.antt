use Rattle.zone_map.specs.ColumnLists.{AreApart}
use Rattle.zone_map.proofs.column_lists.columns_in.Given as goal

abbrev pub invariant-loop-piece : goal.invariant-loop-piece
invariant-loop-piece l = AreApart l.columns.items
