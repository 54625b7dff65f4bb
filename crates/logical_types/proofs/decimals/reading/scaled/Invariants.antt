use Rattle.std.proofs.Common.{◌≡◌, ◌<◌, ◌*◌, ◌^◌}
use Rattle.logical_types.proofs.decimals.reading.scaled.Given as goal

abbrev pub invariant-loop-place : goal.invariant-loop-place
invariant-loop-place l = (l.product ≡ l.value * 10 ^ l._place) × (l.product < l.limit)
