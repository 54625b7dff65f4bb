-- The cells of a filter's formula are those of its literals, and say them if they are valid.
use Rattle.std.proofs.Common.{◌≡◌, List, [], ◌∷◌, ◌++◌, map, refl, sym, subst, ap, ap₂, ◌∙◌}
use Rattle.std.proofs.lemmas.List.{map-append}
use Rattle.vortex_dtype.specs.TypeTree.{TypeTree, erase}
use Rattle.vortex_value.specs.Casts.{OneValue}
use Rattle.vortex_value.specs.Values.RawTree.{RawTree}
use Rattle.vortex_value.specs.Values.Scalars.{scalar_content, scalar_raw, scalar_type}
use Rattle.vortex_value.specs.declared.scalars.Scalar.{Scalar}
use Rattle.vortex_cells.specs.Cells.{Cell, cell_of}
use Rattle.vortex_filter.specs.declared.filter.Filter.{Filter}
use Rattle.vortex_filter.specs.declared.filter.Filter.TheOpen.{Filter-F}
use Rattle.vortex_filter.specs.declared.filter.Filter.TheFolds.{fold-roll-Filter, ind-Filter, map-Filter}
use Rattle.vortex_filter.specs.declared.filter.Filter.TheViews.{roll-Filter}
use Rattle.vortex_filter.specs.FilterLiterals.{AreValid, FormulasSayLiterals, exactly_of, literals_of, literals_step}
use Rattle.vortex_filter.specs.Formula.{Formula, constant, comparison, null_test, membership, range, prefix_test, pattern_test, both, either, negation, formula, formula_step}

-- ---- cells

abbrev cells_in : Formula → List Cell
cells_in (constant t) = []
cells_in (comparison k op x) = x ∷ []
cells_in (null_test k) = []
cells_in (membership k xs) = xs
cells_in (range k x y) = x ∷ y ∷ []
cells_in (prefix_test k p) = p ∷ []
cells_in (pattern_test k case parts) = []
cells_in (both f g) = cells_in f ++ cells_in g
cells_in (either f g) = cells_in f ++ cells_in g
cells_in (negation f) = cells_in f

abbrev CellsAre : Filter → Type 0
CellsAre f = cells_in (formula f) ≡ map cell_of (literals_of f)

by_step : (x : Filter-F Filter) → cells_in (formula_step (map-Filter Filter Formula formula x)) ≡ map cell_of (literals_step (map-Filter Filter (List Scalar) literals_of x)) → CellsAre (roll-Filter x)
by_step x h = ap cells_in (fold-roll-Filter Formula formula_step x) ∙ h ∙ sym (ap (map cell_of) (fold-roll-Filter (List Scalar) literals_step x))

-- a filter of parts of which this holds
module _ (S : Type 0) (part : S → Filter) (are : (s : S) → CellsAre (part s)) where
  joined : (f g : S) → cells_in (formula (part f)) ++ cells_in (formula (part g)) ≡ map cell_of (literals_of (part f) ++ literals_of (part g))
  joined f g = ap₂ ◌++◌ (are f) (are g) ∙ sym (map-append cell_of (literals_of (part f)) (literals_of (part g)))

  by_layer : (y : Filter-F S) → CellsAre (roll-Filter (map-Filter S Filter part y))
  by_layer (Filter-F.Constant t) = by_step (Filter-F.Constant t) refl
  by_layer (Filter-F.Compare k op x) = by_step (Filter-F.Compare k op x) refl
  by_layer (Filter-F.IsNull k) = by_step (Filter-F.IsNull k) refl
  by_layer (Filter-F.In k xs) = by_step (Filter-F.In k xs) refl
  by_layer (Filter-F.Between k x y) = by_step (Filter-F.Between k x y) refl
  by_layer (Filter-F.StartsWith k p) = by_step (Filter-F.StartsWith k p) refl
  by_layer (Filter-F.Like k parts case) = by_step (Filter-F.Like k parts case) refl
  by_layer (Filter-F.And f g) = by_step (map-Filter S Filter part (Filter-F.And f g)) (joined f.value g.value)
  by_layer (Filter-F.Or f g) = by_step (map-Filter S Filter part (Filter-F.Or f g)) (joined f.value g.value)
  by_layer (Filter-F.Not f) = by_step (map-Filter S Filter part (Filter-F.Not f)) (are f.value)

cells_are : (f : Filter) → CellsAre f
cells_are = ind-Filter CellsAre (λ x y is. subst (λ z. CellsAre (roll-Filter z)) is (by_layer _ (λ e. e.0) (λ e. e.1) y))

-- ---- literals

abbrev pair_of : TypeTree → RawTree → TypeTree × RawTree
pair_of t v = (t, v)

-- valid scalars with the same cells are the same
said : OneValue → (xs ys : List Scalar) → AreValid xs → AreValid ys → map cell_of xs ≡ map cell_of ys → map exactly_of xs ≡ map exactly_of ys
said one [] [] v w e = refl
said one [] (y ∷ ys) v w e = absurd cc
said one (x ∷ xs) [] v w e = absurd cc
said one (x ∷ xs) (y ∷ ys) v w e =
    let whole : cell_of x ∷ map cell_of xs ≡ cell_of y ∷ map cell_of ys = e in
    let first : cell_of x ≡ cell_of y = cc in
    let rest : map cell_of xs ≡ map cell_of ys = cc in
    let typed : scalar_type x ≡ scalar_type y = ap (λ (c : Cell). c.typed) first in
    let same : scalar_content x ≡ scalar_content y = ap (λ (c : Cell). c.content) first in
    let raw : scalar_raw x ≡ scalar_raw y = one (scalar_type x) (scalar_type y) (scalar_raw x) (scalar_raw y) (ap erase typed) v.0 w.0 same in
    ap₂ ◌∷◌ (ap₂ pair_of typed raw) (said one xs ys v.1 w.1 rest)

pub formulas_say_literals : OneValue → FormulasSayLiterals
formulas_say_literals one f g v w e = said one (literals_of f) (literals_of g) v w (sym (cells_are f) ∙ ap cells_in e ∙ cells_are g)
