-- The stripes that are left lead on to the accumulators of all.
use Rattle.std.proofs.Common.{◌≡◌, length}
use Rattle.membership.specs.Xxh64.{after_stripes, initial, with_stripes}
use Rattle.membership.proofs.hashing.hash_stripes.Given as goal

abbrev pub invariant-loop-rest : goal.invariant-loop-rest
invariant-loop-rest l = (with_stripes l.accumulators l.rest ≡ with_stripes initial l.words) × (after_stripes l.rest ≡ after_stripes l.words)

abbrev pub decreases-loop-rest : goal.decreases-loop-rest
decreases-loop-rest l = length l.rest
