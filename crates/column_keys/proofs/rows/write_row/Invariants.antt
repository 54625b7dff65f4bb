-- What is written and what is left of the row.
use Rattle.std.proofs.Common.{drop}
use Rattle.vortex_row.specs.Slots.{IsLeftAt}
use Rattle.column_keys.specs.Keys.{key_of_row}
use Rattle.column_keys.specs.Tables.{options_of, table_of}
use Rattle.column_keys.proofs.rows.write_row.Given as goal

abbrev pub invariant-loop-column : goal.invariant-loop-column
invariant-loop-column l = IsLeftAt (key_of_row (options_of (drop l.column-index l.columns)) (table_of (drop l.column-index l.columns)) l.row) (key_of_row (options_of l.columns) (table_of l.columns) l.row) l.start l.place l.initial.buffer l.buffer
