use Rattle.std.proofs.Common.{◌≡◌, take}
use Rattle.std.specs.Prelude.{string_bytes}
use Rattle.csv_columns.specs.Setups.{column_values}
use Rattle.zone_map.specs.ColumnLists.{list_text}
use Rattle.zone_map.proofs.column_lists.columns_text.Given as goal

abbrev pub invariant-loop-named : goal.invariant-loop-named
invariant-loop-named l = string_bytes l.text ≡ list_text (column_values (take l.named-index l.columns))
