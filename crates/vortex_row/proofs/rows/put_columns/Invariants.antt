-- What is written and what is left of the row.
use Rattle.std.proofs.Common.{drop, map}
use Rattle.std.specs.List.{All}
use Rattle.vortex_value.specs.Values.Refs.{ref_content}
use Rattle.vortex_row.specs.Columns.{row_key}
use Rattle.vortex_row.specs.Held.{IsHeld}
use Rattle.vortex_row.specs.Slots.{IsLeftAt}
use Rattle.vortex_row.proofs.rows.put_columns.Given as goal

abbrev pub invariant-loop-column : goal.invariant-loop-column
invariant-loop-column l =
    IsLeftAt (row_key (drop l.column l.options) (map ref_content (drop l.column l.values))) (row_key l.options (map ref_content l.values)) l.start l.place l.initial.room l.room
    × (All IsHeld (map ref_content (drop l.column l.values)) → All IsHeld (map ref_content l.values))
