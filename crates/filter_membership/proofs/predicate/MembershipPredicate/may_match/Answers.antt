use Rattle.std.proofs.Common.{sym, subst}
use Rattle.filter_pruning.specs.declared.outcomes.Outcomes.{Outcomes}
use Rattle.filter_membership.specs.Predicates.{Covers, PredicateTree, members_outcomes}
use Rattle.filter_membership.proofs.Soundness.{none_match, predicates_cover}
use Rattle.filter_membership.proofs.predicate.MembershipPredicate.may_match.Goals as goal

pub returns-clause-loses_nothing : goal.returns-clause-loses_nothing
returns-clause-loses_nothing g c = λ h f asks.
    let may = g.M.Members.may_have c.args.members.now in
    let P : PredicateTree → Type 0 = λ t. Covers f may (members_outcomes t may) in
    let Q : Outcomes → Type 0 = λ o. Covers f may o in
    none_match f may c.outcomes.result (subst Q (sym c.outcomes.ensures) (subst P (sym asks) (predicates_cover f may))) h
