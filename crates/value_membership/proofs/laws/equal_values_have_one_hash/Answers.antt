use Rattle.value_membership.proofs.Equality.{equal_values_have_one_hash}
use Rattle.value_membership.proofs.laws.equal_values_have_one_hash.Goals as goal

pub returns : goal.returns
returns c = equal_values_have_one_hash
