use Rattle.std.proofs.Common.{◌≡◌, ◌<◌, length, false}
use Rattle.logical_types.specs.Decimals.{fraction_from}
use Rattle.logical_types.proofs.decimals.reading.fraction_from.Given as goal

abbrev pub invariant-loop-rest : goal.invariant-loop-rest
invariant-loop-rest l = (fraction_from l.limit l.places l.some l.value l.rest ≡ fraction_from l.limit l.scale false l.whole l.digits) × (l.value < l.limit)

abbrev pub decreases-loop-rest : goal.decreases-loop-rest
decreases-loop-rest l = length l.rest
