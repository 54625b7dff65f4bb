-- The tests of each kind of filter, and that they are those of its formula.
use Rattle.std.proofs.Common.{◌≡◌, inl, ℕ, Vec, Global, Box, List, [], ◌∷◌, ◌++◌, map, length, refl, sym, subst, ap, ap₂, ◌∙◌, rules}
use Rattle.std.specs.List.{AllByRecursion}
use Rattle.std.proofs.lemmas.List.{length-map, map-append}
use Rattle.like_patterns.specs.declared.case.Case.{Case}
use Rattle.like_patterns.specs.Patterns.{Part}
use Rattle.vortex_dtype.specs.TypeTree.{TypeTree}
use Rattle.vortex_value.specs.declared.scalars.Scalar.{Scalar}
use Rattle.vortex_cells.specs.Cells.{Cell, cell_of}
use Rattle.vortex_filter.specs.declared.filter.Filter.{Filter, Constant, Compare, IsNull, In, Between, StartsWith, Like, And, Or, Not, the_lemmas}
use Rattle.vortex_filter.specs.declared.filter.Filter.TheOpen.{Filter-F}
use Rattle.vortex_filter.specs.declared.filter.Filter.TheFolds.{fold-roll-Filter, ind-Filter, map-Filter}
use Rattle.vortex_filter.specs.declared.filter.Filter.TheViews.{roll-Filter}
use Rattle.vortex_filter.specs.declared.operator.CompareOperator.{CompareOperator}
use Rattle.vortex_filter.specs.declared.truth.Truth.{Truth}
use Rattle.vortex_filter.specs.Checking.{AllFit, Demand, FitsColumns, IsOfType, IsOrderedFor, Suits, Test, asks, beginning, comparing, matching, nothing, tests}
use Rattle.vortex_filter.specs.Coercing.{IsCoercible}
use Rattle.vortex_filter.specs.FilterLiterals.{literal_tests, literal_tests_step}
use Rattle.vortex_filter.specs.Formula.{Formula, formula, formula_step}
use Rattle.vortex_filter.proofs.CoerceLaws.{AnyLiteral}

-- ---- the tests of each kind of filter

pub tests-Constant : (t : Truth) → literal_tests (Constant t) ≡ []
tests-Constant t = search (rules, the_lemmas)

pub tests-Compare : (k : ℕ) (op : CompareOperator) (x : Scalar) → literal_tests (Compare k op x) ≡ asks k (comparing (x ∷ []))
tests-Compare k op x = search (rules, the_lemmas)

pub tests-IsNull : (k : ℕ) → literal_tests (IsNull k) ≡ asks k nothing
tests-IsNull k = search (rules, the_lemmas)

pub tests-In : (k : ℕ) (xs : Vec Scalar Global) → literal_tests (In k xs) ≡ asks k (comparing xs.items)
tests-In k xs = search (rules, the_lemmas)

pub tests-Between : (k : ℕ) (x y : Scalar) → literal_tests (Between k x y) ≡ asks k (comparing (x ∷ y ∷ []))
tests-Between k x y = search (rules, the_lemmas)

pub tests-StartsWith : (k : ℕ) (p : Scalar) → literal_tests (StartsWith k p) ≡ asks k (beginning p)
tests-StartsWith k p = search (rules, the_lemmas)

pub tests-Like : (k : ℕ) (parts : List Part) (case : Case) → literal_tests (Like k parts case) ≡ asks k matching
tests-Like k parts case = search (rules, the_lemmas)

pub tests-And : (f g : Box Filter Global) → literal_tests (And f g) ≡ literal_tests f.value ++ literal_tests g.value
tests-And f g = search (rules, the_lemmas)

pub tests-Or : (f g : Box Filter Global) → literal_tests (Or f g) ≡ literal_tests f.value ++ literal_tests g.value
tests-Or f g = search (rules, the_lemmas)

pub tests-Not : (f : Box Filter Global) → literal_tests (Not f) ≡ literal_tests f.value
tests-Not f = search (rules, the_lemmas)

-- ---- those of the formula

-- what is asked, with the literals as cells
abbrev cell_demand : Demand Scalar → Demand Cell
cell_demand nothing = nothing
cell_demand (comparing xs) = comparing (map cell_of xs)
cell_demand (beginning p) = beginning (cell_of p)
cell_demand matching = matching

abbrev cell_test : Test Scalar → Test Cell
cell_test test = record { column = test.column; demand = cell_demand test.demand }

abbrev TestsAre : Filter → Type 0
TestsAre f = tests (formula f) ≡ map cell_test (literal_tests f)

by_step : (x : Filter-F Filter) → tests (formula_step (map-Filter Filter Formula formula x)) ≡ map cell_test (literal_tests_step (map-Filter Filter (List (Test Scalar)) literal_tests x)) → TestsAre (roll-Filter x)
by_step x h = ap tests (fold-roll-Filter Formula formula_step x) ∙ h ∙ sym (ap (map cell_test) (fold-roll-Filter (List (Test Scalar)) literal_tests_step x))

-- a filter of parts of which this holds
module _ (S : Type 0) (part : S → Filter) (are : (s : S) → TestsAre (part s)) where
  joined : (f g : S) → tests (formula (part f)) ++ tests (formula (part g)) ≡ map cell_test (literal_tests (part f) ++ literal_tests (part g))
  joined f g = ap₂ ◌++◌ (are f) (are g) ∙ sym (map-append cell_test (literal_tests (part f)) (literal_tests (part g)))

  by_layer : (y : Filter-F S) → TestsAre (roll-Filter (map-Filter S Filter part y))
  by_layer (Filter-F.Constant t) = by_step (Filter-F.Constant t) refl
  by_layer (Filter-F.Compare k op x) = by_step (Filter-F.Compare k op x) refl
  by_layer (Filter-F.IsNull k) = by_step (Filter-F.IsNull k) refl
  by_layer (Filter-F.In k xs) = by_step (Filter-F.In k xs) refl
  by_layer (Filter-F.Between k x y) = by_step (Filter-F.Between k x y) refl
  by_layer (Filter-F.StartsWith k p) = by_step (Filter-F.StartsWith k p) refl
  by_layer (Filter-F.Like k parts case) = by_step (Filter-F.Like k parts case) refl
  by_layer (Filter-F.And f g) = by_step (map-Filter S Filter part (Filter-F.And f g)) (joined f.value g.value)
  by_layer (Filter-F.Or f g) = by_step (map-Filter S Filter part (Filter-F.Or f g)) (joined f.value g.value)
  by_layer (Filter-F.Not f) = by_step (map-Filter S Filter part (Filter-F.Not f)) (are f.value)

tests_are : (f : Filter) → TestsAre f
tests_are = ind-Filter TestsAre (λ x y is. subst (λ z. TestsAre (roll-Filter z)) is (by_layer _ (λ e. e.0) (λ e. e.1) y))

pub count_is : (f : Filter) → length (tests (formula f)) ≡ length (literal_tests f)
count_is f = ap length (tests_are f) ∙ length-map (literal_tests f) cell_test

-- ---- which columns they have

ordered_for : (d : Demand Scalar) (t : TypeTree) → IsOrderedFor (cell_demand d) t → IsOrderedFor d t
ordered_for nothing t h = h
ordered_for (comparing xs) t h = h
ordered_for (beginning p) t h = h
ordered_for matching t h = h

ordered_from : (d : Demand Scalar) (t : TypeTree) → IsOrderedFor d t → IsOrderedFor (cell_demand d) t
ordered_from nothing t h = h
ordered_from (comparing xs) t h = h
ordered_from (beginning p) t h = h
ordered_from matching t h = h

suits_coercible : (d : Demand Scalar) (t : TypeTree) → Suits IsOfType (cell_demand d) t → Suits IsCoercible d t
suits_coercible nothing t h = tt
suits_coercible (comparing xs) t h = each xs h
  where
    each : (xs : List Scalar) → AllByRecursion (IsOfType t) (map cell_of xs) → AllByRecursion (IsCoercible t) xs
    each [] h = tt
    each (x ∷ xs) h = (inl h.0, each xs h.1)
suits_coercible (beginning p) t h = (h.0, inl h.1)
suits_coercible matching t h = h

suits_any : (d : Demand Scalar) (t : TypeTree) → Suits IsCoercible d t → Suits AnyLiteral (cell_demand d) t
suits_any nothing t h = tt
suits_any (comparing xs) t h = each (map cell_of xs)
  where
    each : (xs : List Cell) → AllByRecursion (AnyLiteral t) xs
    each [] = tt
    each (x ∷ xs) = (tt, each xs)
suits_any (beginning p) t h = (h.0, tt)
suits_any matching t h = h

all_coercible : (columns : List TypeTree) (ts : List (Test Scalar)) → AllFit IsOfType columns (map cell_test ts) → AllFit IsCoercible columns ts
all_coercible columns [] h = tt
all_coercible columns (test ∷ ts) h =
    (record { dtype = h.0.dtype; there = h.0.there; ordered = ordered_for test.demand h.0.dtype h.0.ordered; suits = suits_coercible test.demand h.0.dtype h.0.suits }, all_coercible columns ts h.1)

all_any : (columns : List TypeTree) (ts : List (Test Scalar)) → AllFit IsCoercible columns ts → AllFit AnyLiteral columns (map cell_test ts)
all_any columns [] h = tt
all_any columns (test ∷ ts) h =
    (record { dtype = h.0.dtype; there = h.0.there; ordered = ordered_from test.demand h.0.dtype h.0.ordered; suits = suits_any test.demand h.0.dtype h.0.suits }, all_any columns ts h.1)

-- the literals of a filter that fits can be made ones of its columns' types
pub fitting_coercible : (columns : List TypeTree) (f : Filter) → FitsColumns columns (formula f) → AllFit IsCoercible columns (literal_tests f)
fitting_coercible columns f h = all_coercible columns (literal_tests f) (subst (AllFit IsOfType columns) (tests_are f) h)

-- and the columns of one whose literals can are there
pub coercible_columns : (columns : List TypeTree) (f : Filter) → AllFit IsCoercible columns (literal_tests f) → AllFit AnyLiteral columns (tests (formula f))
coercible_columns columns f h = subst (AllFit AnyLiteral columns) (sym (tests_are f)) (all_any columns (literal_tests f) h)
