-- The tree of each kind of predicate.
use Rattle.std.proofs.Common.{◌≡◌, ℕ, Option, Vec, Global, Box, rules}
use Rattle.vortex_filter.specs.declared.truth.Truth.{Truth}
use Rattle.filter_membership.specs.declared.predicate.MembershipPredicate.{MembershipPredicate, Open, Constant, OneOf, And, Or, Not, the_lemmas}
use Rattle.filter_membership.specs.Predicates.{undecided, always, one_of, both_of, either_of, negation_of, predicate_tree}

pub tree-Open : predicate_tree Open ≡ undecided
tree-Open = search (rules, the_lemmas)

pub tree-Constant : (t : Truth) → predicate_tree (Constant t) ≡ always t
tree-Constant t = search (rules, the_lemmas)

pub tree-OneOf : (k : ℕ) (hashes : Vec (Option ℕ) Global) → predicate_tree (OneOf k hashes) ≡ one_of k hashes.items
tree-OneOf k hashes = search (rules, the_lemmas)

pub tree-And : (p q : Box MembershipPredicate Global) → predicate_tree (And p q) ≡ both_of (predicate_tree p.value) (predicate_tree q.value)
tree-And p q = search (rules, the_lemmas)

pub tree-Or : (p q : Box MembershipPredicate Global) → predicate_tree (Or p q) ≡ either_of (predicate_tree p.value) (predicate_tree q.value)
tree-Or p q = search (rules, the_lemmas)

pub tree-Not : (p : Box MembershipPredicate Global) → predicate_tree (Not p) ≡ negation_of (predicate_tree p.value)
tree-Not p = search (rules, the_lemmas)

pub ruleset shown = (tree-Open, tree-Constant, tree-OneOf, tree-And, tree-Or, tree-Not)
