-- The keys of the rows so far are written, and where the next one begins.
use Rattle.std.proofs.Common.{◌≡◌, ◌+◌, drop}
use Rattle.std.specs.Prelude.{slice_index}
use Rattle.column_keys.specs.Keys.{AreRowKeys, keys_length}
use Rattle.column_keys.specs.Tables.{options_of, table_of}
use Rattle.column_keys.proofs.table.write_row_keys.Given as goal

abbrev pub invariant-loop-row : goal.invariant-loop-row
invariant-loop-row l =
    AreRowKeys (options_of l.columns) (table_of l.columns) l.row l.offsets l.buffer × (slice_index l.offsets l.row ≡ l.place) × (l.place ≡ keys_length (options_of l.columns) (table_of l.columns) l.row)
    × (drop (l.row_count + 1) l.offsets ≡ drop (l.row_count + 1) l.initial.offsets)
