-- The literals of what is left of a filter are valid.
use Rattle.std.proofs.Common.{◌≡◌, Option, Some, None, option_map, Result, Ok, Err, IfErr, IfOk, subst, sym}
use Rattle.std.specs.Prelude.{IfSome}
use Rattle.vortex_filter.specs.declared.error.FilterError.{FilterError}
use Rattle.vortex_filter.specs.declared.error.FilterError.TheVariants.{OutOfMemory}
use Rattle.vortex_filter.specs.declared.filter.Filter.{Filter, Constant}
use Rattle.vortex_filter.specs.declared.truth.Truth.{Truth}
use Rattle.vortex_filter.specs.FilterLiterals.{MakesValid}
use Rattle.vortex_filter.specs.Formula.{Formula, formula}
use Rattle.vortex_filter.specs.Makes.{IsBare, MakesUnlessBare}
use Rattle.vortex_filter.proofs.LiteralSteps.{both_valid, constant_valid, literals-And, literals-Not, literals-Or, negation_valid, valid_left, valid_right}
use Rattle.filter_pruning.specs.declared.outcomes.Outcomes.{Outcomes}
use Rattle.filter_pruning.specs.declared.residual.Residual.{Residual}
use Rattle.filter_pruning.specs.Leaves.{LeavesValid, settled}
use Rattle.filter_pruning.specs.Residual.{sole}

pub settled_valid : (r : Residual) (o : Outcomes) → r ≡ settled o → LeavesValid r
settled_valid r o e = subst LeavesValid (sym e) (by_sole (sole o))
  where
    by_sole : (s : Option Truth) → IfSome (option_map (λ t. Ok (Constant t)) s) MakesValid
    by_sole None = tt
    by_sole (Some t) = constant_valid t

-- a copy, by what its two clauses say
pub copy_made : (f : Formula) (r : Result Filter FilterError) → IfOk r (λ g. formula g ≡ f) → IfErr r (λ e. (e ≡ OutOfMemory) × ¬ (IsBare f)) → MakesUnlessBare f r
copy_made f (Ok g) m h = m
copy_made f (Err e) m h = h

pub ruleset left = (both_valid, negation_valid, settled_valid, copy_made)

pub ruleset shown = (both_valid, negation_valid, settled_valid, copy_made, valid_left, valid_right, literals-And, literals-Or, literals-Not)
