use Rattle.value_membership.proofs.MemberLaws.{casts_keep_members}
use Rattle.value_membership.proofs.laws.casts_keep_members.Goals as goal

pub returns : goal.returns
returns c = casts_keep_members
