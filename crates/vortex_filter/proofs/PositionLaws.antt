-- Tests with literals fit their column, if these stand at cells of its type or where it has none.
use Rattle.std.proofs.Common.{◌≡◌, ℕ, Bool, true, false, List, [], ◌∷◌, ◌++◌, Some}
use Rattle.std.specs.List.{AllByRecursion, slice_get}
use Rattle.vortex_dtype.specs.TypeTree.{TypeTree}
use Rattle.vortex_value.specs.TypesWithin.{HasNoVariant}
use Rattle.vortex_cells.specs.Cells.{Cell}
use Rattle.vortex_filter.specs.declared.operator.CompareOperator.{CompareOperator}
use Rattle.vortex_filter.specs.declared.operator.CompareOperator.TheVariants.{Eq, NotEq, Gt, Gte, Lt, Lte}
use Rattle.vortex_filter.specs.Checking.{AllFit, HoldsStrings, HoldsText, IsOfType, asks, beginning, comparing, matching, nothing, tests}
use Rattle.vortex_filter.specs.Operators.{holds}
use Rattle.vortex_filter.specs.Positions.{PositionTree, exactly, just_above, lacking, cells_of, comparison_above, comparison_of, for_values, member_among, member_of, range_of}
use Rattle.vortex_filter.proofs.CheckLaws.{fit_both, fit_one}

-- a literal that stands at a cell, stands at one of the type
abbrev pub CellFits : TypeTree → PositionTree → Type 0
CellFits t (exactly x) = IsOfType t x
CellFits t (just_above x) = IsOfType t x
CellFits t (lacking o) = Unit {0}

abbrev pub CellsFit : TypeTree → List PositionTree → Type 0
CellsFit t ps = AllByRecursion (CellFits t) ps

cells_fit : (t : TypeTree) (ps : List PositionTree) → CellsFit t ps → AllByRecursion (IsOfType t) (cells_of ps)
cells_fit t [] h = tt
cells_fit t (exactly x ∷ ps) h = (h.0, cells_fit t ps h.1)
cells_fit t (just_above x ∷ ps) h = cells_fit t ps h.1
cells_fit t (lacking o ∷ ps) h = cells_fit t ps h.1

module _ (columns : List TypeTree) (k : ℕ) (t : TypeTree) (there : slice_get columns k ≡ Some t) where
  pub nothing_fits : AllFit IsOfType columns (asks k nothing)
  nothing_fits = fit_one IsOfType columns k nothing t there tt tt

  settled_fits : (b : Bool) → AllFit IsOfType columns (tests (for_values b k))
  settled_fits true = nothing_fits
  settled_fits false = nothing_fits

  module _ (ordered : HasNoVariant t) where
    literals_fit : (xs : List Cell) → AllByRecursion (IsOfType t) xs → AllFit IsOfType columns (asks k (comparing xs))
    literals_fit xs h = fit_one IsOfType columns k (comparing xs) t there ordered h

    pub prefix_fits : (x : Cell) → HoldsStrings t → IsOfType t x → AllFit IsOfType columns (asks k (beginning x))
    prefix_fits x s h = fit_one IsOfType columns k (beginning x) t there ordered (s, h)

    pub pattern_fits : HoldsText t → AllFit IsOfType columns (asks k matching)
    pattern_fits s = fit_one IsOfType columns k matching t there ordered s

    above_fits : (op : CompareOperator) (x : Cell) → IsOfType t x → AllFit IsOfType columns (tests (comparison_above k op x))
    above_fits Eq x h = settled_fits false
    above_fits NotEq x h = settled_fits true
    above_fits Gt x h = literals_fit (x ∷ []) (h, tt)
    above_fits Gte x h = literals_fit (x ∷ []) (h, tt)
    above_fits Lt x h = literals_fit (x ∷ []) (h, tt)
    above_fits Lte x h = literals_fit (x ∷ []) (h, tt)

    pub comparison_fits : (op : CompareOperator) (p : PositionTree) → CellFits t p → AllFit IsOfType columns (tests (comparison_of k op p))
    comparison_fits op (exactly x) h = literals_fit (x ∷ []) (h, tt)
    comparison_fits op (just_above x) h = above_fits op x h
    comparison_fits op (lacking o) h = settled_fits (holds op o)

    halves_fit : (p q : PositionTree) → CellFits t p → CellFits t q → AllFit IsOfType columns (tests (comparison_of k Gte p) ++ tests (comparison_of k Lte q))
    halves_fit p q h i = fit_both IsOfType columns (tests (comparison_of k Gte p)) (tests (comparison_of k Lte q)) (comparison_fits Gte p h) (comparison_fits Lte q i)

    pub range_fits : (p q : PositionTree) → CellFits t p → CellFits t q → AllFit IsOfType columns (tests (range_of k p q))
    range_fits (exactly x) (exactly y) h i = literals_fit (x ∷ y ∷ []) (h, (i, tt))
    range_fits (exactly x) (just_above y) h i = halves_fit (exactly x) (just_above y) h i
    range_fits (exactly x) (lacking o) h i = halves_fit (exactly x) (lacking o) h i
    range_fits (just_above x) (exactly y) h i = halves_fit (just_above x) (exactly y) h i
    range_fits (just_above x) (just_above y) h i = halves_fit (just_above x) (just_above y) h i
    range_fits (just_above x) (lacking o) h i = halves_fit (just_above x) (lacking o) h i
    range_fits (lacking o) (exactly y) h i = halves_fit (lacking o) (exactly y) h i
    range_fits (lacking o) (just_above y) h i = halves_fit (lacking o) (just_above y) h i
    range_fits (lacking o) (lacking r) h i = halves_fit (lacking o) (lacking r) h i

    member_fits : (xs : List Cell) → AllByRecursion (IsOfType t) xs → AllFit IsOfType columns (tests (member_of k xs))
    member_fits [] h = settled_fits false
    member_fits (x ∷ xs) h = literals_fit (x ∷ xs) h

    pub membership_fits : (ps : List PositionTree) → CellsFit t ps → AllFit IsOfType columns (tests (member_among k ps))
    membership_fits [] h = literals_fit [] tt
    membership_fits (p ∷ ps) h = member_fits (cells_of (p ∷ ps)) (cells_fit t (p ∷ ps) h)
