use Rattle.std.proofs.Common.{◌≡◌, length}
use Rattle.logical_types.specs.Places.{places_behind}
use Rattle.logical_types.proofs.decimals.places.places_behind.Given as goal

abbrev pub invariant-loop-rest : goal.invariant-loop-rest
invariant-loop-rest l = places_behind l.rest ≡ places_behind l.word

abbrev pub decreases-loop-rest : goal.decreases-loop-rest
decreases-loop-rest l = length l.rest
