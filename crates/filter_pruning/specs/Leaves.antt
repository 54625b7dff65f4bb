-- What is left of a filter, and what stands in its place.
use Rattle.std.specs.Prelude.{◌≡◌, Bool, false, IfSome, List, None, option_map, Result, Ok, Err, MatchOption}
use Rattle.vortex_statistics.specs.Statistics.{Known}
use Rattle.vortex_filter.specs.declared.error.FilterError.{FilterError}
use Rattle.vortex_filter.specs.declared.filter.Filter.{Filter, Constant}
use Rattle.vortex_filter.specs.declared.truth.Truth.TheVariants.{False, True}
use Rattle.vortex_filter.specs.FilterLiterals.{MakesValid}
use Rattle.vortex_filter.specs.Formula.{Formula, formula}
use Rattle.vortex_filter.specs.Makes.{MakesUnlessBare}
use Rattle.filter_pruning.specs.declared.outcomes.Outcomes.{Outcomes}
use Rattle.filter_pruning.specs.declared.residual.Residual.{Residual}
use Rattle.filter_pruning.specs.Outcomes.{outcomes}
use Rattle.filter_pruning.specs.Residual.{is_constant, residual, sole}

-- what is left of a filter that can be this, and whose parts stay as they are
abbrev pub settled : Outcomes → Residual
settled o = record { outcomes = o; change = option_map (λ t. Ok (Constant t)) (sole o) }

-- what f can be, and what is left of it. It stays as it is only if more than one truth is possible
pub record IsResidual (ss : List Known) (f : Formula) (r : Residual) : Type 0 where
  pub possible : r.outcomes ≡ outcomes f ss
  pub left : MatchOption r.change ((residual ss f ≡ f) × (sole (outcomes f ss) ≡ None)) (MakesUnlessBare (residual ss f))

-- if something stands in the filter's place, its literals are valid
abbrev pub LeavesValid : Residual → Type 0
LeavesValid r = IfSome r.change MakesValid

-- whether a filter was made, and is the constant True
abbrev pub is_made_true : Result Filter FilterError → Bool
is_made_true (Ok f) = is_constant True (formula f)
is_made_true (Err e) = false

-- whether a filter was made, and is the constant False
abbrev pub is_made_false : Result Filter FilterError → Bool
is_made_false (Ok f) = is_constant False (formula f)
is_made_false (Err e) = false
