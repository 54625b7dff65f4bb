-- What is counted and what is left.
use Rattle.std.proofs.Common.{◌≡◌, ◌+◌, drop}
use Rattle.vortex_value.specs.Size.{capped}
use Rattle.column_keys.specs.Keys.{keys_length}
use Rattle.column_keys.specs.Tables.{options_of, table_of}
use Rattle.column_keys.proofs.table.row_keys_length.Given as goal

abbrev pub invariant-loop-column : goal.invariant-loop-column
invariant-loop-column l =
    (capped l.total ≡ l.total) × (capped (l.total + keys_length (options_of (drop l.column-index l.columns)) (table_of (drop l.column-index l.columns)) l.row_count) ≡ capped (keys_length (options_of l.columns) (table_of l.columns) l.row_count))
