use Rattle.membership.specs.Xxh64.{xxh64}
use Rattle.membership.proofs.hashing.xxh64.Goals as goal

pub returns : goal.returns
unfolding xxh64
returns c = cc
