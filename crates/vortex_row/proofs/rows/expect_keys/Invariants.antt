-- If the rest of the values have keys, all have.
use Rattle.std.proofs.Common.{drop}
use Rattle.std.specs.List.{All}
use Rattle.vortex_value.specs.Values.Refs.{ref_content, ref_type}
use Rattle.vortex_row.specs.Typed.{HasKey}
use Rattle.vortex_row.proofs.rows.expect_keys.Given as goal

abbrev pub invariant-loop-value : goal.invariant-loop-value
invariant-loop-value l = All (λ x. HasKey (ref_type x) (ref_content x)) (drop l.value-index l.values) → All (λ x. HasKey (ref_type x) (ref_content x)) l.values
