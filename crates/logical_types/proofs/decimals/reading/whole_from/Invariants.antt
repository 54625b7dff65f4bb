use Rattle.std.proofs.Common.{◌≡◌, ◌<◌, length, false}
use Rattle.logical_types.specs.Decimals.{whole_from}
use Rattle.logical_types.proofs.decimals.reading.whole_from.Given as goal

abbrev pub invariant-loop-rest : goal.invariant-loop-rest
invariant-loop-rest l = (whole_from l.limit l.scale l.some l.value l.rest ≡ whole_from l.limit l.scale false 0 l.digits) × (l.value < l.limit)

abbrev pub decreases-loop-rest : goal.decreases-loop-rest
decreases-loop-rest l = length l.rest
