-- The law.
use Rattle.membership.proofs.Contained.{sets_bits}
use Rattle.membership.proofs.laws.bits_are_those_of_hashes.Goals as goal

pub returns : goal.returns
returns c = sets_bits
