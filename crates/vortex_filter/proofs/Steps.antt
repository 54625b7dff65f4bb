-- The formula of each kind of filter.
use Rattle.std.proofs.Common.{◌≡◌, ℕ, List, Vec, Global, Box, map, rules}
use Rattle.like_patterns.specs.declared.case.Case.{Case}
use Rattle.like_patterns.specs.Patterns.{Part}
use Rattle.vortex_value.specs.declared.scalars.Scalar.{Scalar}
use Rattle.vortex_cells.specs.Cells.{cell_of}
use Rattle.vortex_filter.specs.declared.filter.Filter.{Filter, Constant, Compare, IsNull, In, Between, StartsWith, Like, And, Or, Not, the_lemmas}
use Rattle.vortex_filter.specs.declared.operator.CompareOperator.{CompareOperator}
use Rattle.vortex_filter.specs.declared.truth.Truth.{Truth}
use Rattle.vortex_filter.specs.Formula.{constant, comparison, null_test, membership, range, prefix_test, pattern_test, both, either, negation, formula}

pub formula-Constant : (t : Truth) → formula (Constant t) ≡ constant t
formula-Constant t = search (rules, the_lemmas)

pub formula-Compare : (k : ℕ) (op : CompareOperator) (literal : Scalar) → formula (Compare k op literal) ≡ comparison k op (cell_of literal)
formula-Compare k op literal = search (rules, the_lemmas)

pub formula-IsNull : (k : ℕ) → formula (IsNull k) ≡ null_test k
formula-IsNull k = search (rules, the_lemmas)

pub formula-In : (k : ℕ) (literals : Vec Scalar Global) → formula (In k literals) ≡ membership k (map cell_of literals.items)
formula-In k literals = search (rules, the_lemmas)

pub formula-Between : (k : ℕ) (lower upper : Scalar) → formula (Between k lower upper) ≡ range k (cell_of lower) (cell_of upper)
formula-Between k lower upper = search (rules, the_lemmas)

pub formula-StartsWith : (k : ℕ) (prefix : Scalar) → formula (StartsWith k prefix) ≡ prefix_test k (cell_of prefix)
formula-StartsWith k prefix = search (rules, the_lemmas)

pub formula-Like : (k : ℕ) (parts : List Part) (case : Case) → formula (Like k parts case) ≡ pattern_test k case parts
formula-Like k parts case = search (rules, the_lemmas)

pub formula-And : (f g : Box Filter Global) → formula (And f g) ≡ both (formula f.value) (formula g.value)
formula-And f g = search (rules, the_lemmas)

pub formula-Or : (f g : Box Filter Global) → formula (Or f g) ≡ either (formula f.value) (formula g.value)
formula-Or f g = search (rules, the_lemmas)

pub formula-Not : (f : Box Filter Global) → formula (Not f) ≡ negation (formula f.value)
formula-Not f = search (rules, the_lemmas)

pub ruleset shown = (formula-Constant, formula-Compare, formula-IsNull, formula-In, formula-Between, formula-StartsWith, formula-Like, formula-And, formula-Or, formula-Not)
