-- The law of heights: at which depths a filter has an encoding.
use Rattle.std.specs.Prelude.{ℕ, suc, max, ◌≤◌}
use Rattle.vortex_filter.specs.Formula.{Formula, both, either, negation}
use Rattle.filter_encoding.specs.Encoding.{CanBeWritten, Prepared}

-- how many connectives nest in a formula
abbrev pub height : Formula → ℕ
height (both f g) = suc (max (height f) (height g))
height (either f g) = suc (max (height f) (height g))
height (negation f) = suc (height f)
height _ = 0

-- A filter that can be written at some depth can be written at each depth that is no less than its height.
abbrev pub LowFiltersNest : Type 0
LowFiltersNest = (m n : ℕ) (p : Prepared) → CanBeWritten m p → height p.filter ≤ n → CanBeWritten n p
