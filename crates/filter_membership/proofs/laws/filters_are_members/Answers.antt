use Rattle.filter_membership.proofs.Soundness.{filters_are_members}
use Rattle.filter_membership.proofs.laws.filters_are_members.Goals as goal

pub returns : goal.returns
returns c = filters_are_members
