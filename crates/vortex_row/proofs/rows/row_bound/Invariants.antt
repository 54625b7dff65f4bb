-- What is counted is no less than what the values so far have.
use Rattle.std.proofs.Common.{◌+◌, ◌≤◌, drop, map}
use Rattle.vortex_value.specs.Size.{capped}
use Rattle.vortex_value.specs.Values.Refs.{ref_content}
use Rattle.vortex_row.specs.Steps.{keys_length}
use Rattle.vortex_row.proofs.rows.row_bound.Given as goal

abbrev pub invariant-loop-value : goal.invariant-loop-value
invariant-loop-value l = capped (keys_length (map ref_content l.values)) ≤ capped (l.total + keys_length (map ref_content (drop l.value-index l.values)))
