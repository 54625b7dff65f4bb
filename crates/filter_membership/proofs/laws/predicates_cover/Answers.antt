use Rattle.filter_membership.proofs.Soundness.{predicates_cover}
use Rattle.filter_membership.proofs.laws.predicates_cover.Goals as goal

pub returns : goal.returns
returns c = predicates_cover
