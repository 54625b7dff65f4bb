-- None so far, and the rest decides.
use Rattle.std.proofs.Common.{◌≡◌, drop}
use Rattle.filter_membership.specs.Predicates.{may_have_one}
use Rattle.filter_membership.proofs.predicate.may_have_one.Given as goal

abbrev pub invariant-loop-hash : goal.invariant-loop-hash
invariant-loop-hash g l = may_have_one (g.M.Members.may_have l.members l.column) (drop l.hash-index l.hashes) ≡ may_have_one (g.M.Members.may_have l.members l.column) l.hashes
