-- Filters that are made of parts, or out of memory.
use Rattle.std.specs.Prelude.{◌≡◌, Result, MatchResult}
use Rattle.vortex_filter.specs.declared.error.FilterError.{FilterError}
use Rattle.vortex_filter.specs.declared.error.FilterError.TheVariants.{OutOfMemory}
use Rattle.vortex_filter.specs.declared.filter.Filter.{Filter}
use Rattle.vortex_filter.specs.Formula.{Formula, constant, null_test, formula}

-- a filter of this formula, or out of memory
abbrev pub Makes : Formula → Result Filter FilterError → Type 0
Makes f r = MatchResult r (λ g. formula g ≡ f) (λ e. e ≡ OutOfMemory)

-- P holds of both parts if both were made, and else Q of the refusal of the first that was not
abbrev pub OfParts : (Filter → Filter → Type 0) → (FilterError → Type 0) → Result Filter FilterError → Result Filter FilterError → Type 0
OfParts P Q left right = MatchResult left (λ f. MatchResult right (λ g. P f g) Q) Q

-- a constant, or a test for null: what takes no memory
abbrev pub IsBare : Formula → Type 0
IsBare (constant t) = Unit {0}
IsBare (null_test k) = Unit {0}
IsBare _ = ⊥

-- a filter of this formula, or out of memory if it is neither a constant nor a test for null
abbrev pub MakesUnlessBare : Formula → Result Filter FilterError → Type 0
MakesUnlessBare f r = MatchResult r (λ g. formula g ≡ f) (λ e. (e ≡ OutOfMemory) × ¬ (IsBare f))
