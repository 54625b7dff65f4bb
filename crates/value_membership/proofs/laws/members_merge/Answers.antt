use Rattle.value_membership.proofs.MemberLaws.{members_merge}
use Rattle.value_membership.proofs.laws.members_merge.Goals as goal

pub returns : goal.returns
returns c = members_merge
