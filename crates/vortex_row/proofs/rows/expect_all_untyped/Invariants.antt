-- If in the rest of the values no variant stands, in none of them does.
use Rattle.std.proofs.Common.{drop, map}
use Rattle.std.specs.List.{All}
use Rattle.vortex_value.specs.Equality.{HasNoTyped}
use Rattle.vortex_value.specs.Values.Refs.{ref_content}
use Rattle.vortex_row.proofs.rows.expect_all_untyped.Given as goal

abbrev pub invariant-loop-value : goal.invariant-loop-value
invariant-loop-value l = All HasNoTyped (map ref_content (drop l.value-index l.values)) → All HasNoTyped (map ref_content l.values)
