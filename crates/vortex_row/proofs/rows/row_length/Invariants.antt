-- What is counted and what is left.
use Rattle.std.proofs.Common.{◌≡◌, ◌+◌, drop, map}
use Rattle.vortex_value.specs.Size.{capped}
use Rattle.vortex_value.specs.Values.Refs.{ref_content}
use Rattle.vortex_row.specs.Steps.{keys_length}
use Rattle.vortex_row.proofs.rows.row_length.Given as goal

abbrev pub invariant-loop-value : goal.invariant-loop-value
invariant-loop-value l =
    (capped l.total ≡ l.total) × (capped (l.total + keys_length (map ref_content (drop l.value-index l.values))) ≡ capped (keys_length (map ref_content l.values)))
