-- The laws of filters that are asked of members.
use Rattle.std.specs.Prelude.{◌≡◌, ℕ, List, Bool, Option, Some}
use Rattle.vortex_cells.specs.Cells.{Cell}
use Rattle.vortex_filter.specs.Formula.{Formula}
use Rattle.filter_pruning.specs.Pruning.{column}
use Rattle.value_membership.specs.Members.{HasMembers}
use Rattle.filter_membership.specs.Filters.{filter_at, may_have_by}
use Rattle.filter_membership.specs.Predicates.{AreMembersOf, Covers, asked, members_outcomes}

-- on each row of a zone with these members the filter is one of the outcomes
abbrev pub PredicatesCover : Type 0
PredicatesCover = (f : Formula) (may : ℕ → ℕ → Bool) → Covers f may (members_outcomes (asked f) may)

-- filters of columns are their members, if each that is there has the values of its column
abbrev pub FiltersAreMembers : Type 0
FiltersAreMembers = (filters : List (Option (List ℕ))) (rows : List (List Cell))
    → ((k : ℕ) (filter : List ℕ) → filter_at filters k ≡ Some filter → HasMembers filter (column k rows)) → AreMembersOf (may_have_by filters) rows
