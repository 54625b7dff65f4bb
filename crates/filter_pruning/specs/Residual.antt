-- What is left of a formula on the rows of a zone, by the zone's statistics.
use Rattle.std.specs.Prelude.{◌≡◌, ℕ, ◌+◌, Bool, true, false, List, length, Option, Some, None, if◌then◌else◌}
use Rattle.vortex_statistics.specs.Statistics.{Known}
use Rattle.filter_pruning.specs.declared.outcomes.Outcomes.{Outcomes}
use Rattle.vortex_filter.specs.declared.truth.Truth.{Truth}
use Rattle.vortex_filter.specs.declared.truth.Truth.TheVariants.{False, Unknown, True}
use Rattle.vortex_filter.specs.Formula.{Formula, constant, comparison, null_test, membership, range, prefix_test, pattern_test, both, either, negation, truth}
use Rattle.filter_pruning.specs.Outcomes.{outcomes}
use Rattle.filter_pruning.specs.Pruning.{OnEachRow}

-- ---- one truth

-- the truth that alone is possible, if False, Unknown and True are possible or not
abbrev pub sole_of : Bool → Bool → Bool → Option Truth
sole_of true false false = Some False
sole_of false true false = Some Unknown
sole_of false false true = Some True
sole_of _ _ _ = None

-- the truth that alone is possible
abbrev pub sole : Outcomes → Option Truth
sole o = sole_of o.may_be_false o.may_be_unknown o.may_be_true

-- the constant, if there is one truth, and else the formula
abbrev pub settled_as : Option Truth → Formula → Formula
settled_as None f = f
settled_as (Some t) f = constant t

-- ---- connectives

-- whether the two are one truth
abbrev pub same_truths : Truth → Truth → Bool
same_truths False False = true
same_truths Unknown Unknown = true
same_truths True True = true
same_truths _ _ = false

-- whether the formula is this constant
abbrev pub is_constant : Truth → Formula → Bool
is_constant t (constant s) = same_truths t s
is_constant t _ = false

-- both, without a True
abbrev pub conjunction : Formula → Formula → Formula
conjunction f g = if is_constant True f then g else (if is_constant True g then f else both f g)

-- either, without a False
abbrev pub disjunction : Formula → Formula → Formula
disjunction f g = if is_constant False f then g else (if is_constant False g then f else either f g)

-- ---- what is left

-- each part that can have one truth alone is that constant
abbrev pub residual : List Known → Formula → Formula
residual ss (both f g) = settled_as (sole (outcomes (both f g) ss)) (conjunction (residual ss f) (residual ss g))
residual ss (either f g) = settled_as (sole (outcomes (either f g) ss)) (disjunction (residual ss f) (residual ss g))
residual ss (negation f) = settled_as (sole (outcomes (negation f) ss)) (negation (residual ss f))
residual ss test = settled_as (sole (outcomes test ss)) test

-- the formula with what is left of its parts
abbrev pub reduced : List Known → Formula → Formula
reduced ss (both f g) = conjunction (residual ss f) (residual ss g)
reduced ss (either f g) = disjunction (residual ss f) (residual ss g)
reduced ss (negation f) = negation (residual ss f)
reduced ss test = test

-- how many constants, tests, connectives and literals
abbrev pub size : Formula → ℕ
size (constant t) = 1
size (comparison k op x) = 2
size (null_test k) = 1
size (membership k xs) = 1 + length xs
size (range k x y) = 3
size (prefix_test k p) = 2
size (pattern_test k case parts) = 1
size (both f g) = 1 + size f + size g
size (either f g) = 1 + size f + size g
size (negation f) = 1 + size f

-- g says the same as f on each row of each zone for which the statistics are right
abbrev pub SameOnRows : List Known → Formula → Formula → Type 0
SameOnRows ss f g = OnEachRow ss (λ row. truth g row ≡ truth f row)
