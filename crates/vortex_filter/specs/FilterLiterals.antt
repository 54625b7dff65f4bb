-- The literals and the tests of a filter, with its literals as scalars.
use Rattle.std.specs.Prelude.{◌≡◌, List, [], ◌∷◌, ◌++◌, map, IfOk, Result}
use Rattle.std.specs.List.{AllByRecursion}
use Rattle.vortex_dtype.specs.TypeTree.{TypeTree}
use Rattle.vortex_value.specs.Values.RawTree.{RawTree}
use Rattle.vortex_value.specs.Values.Scalars.{IsValid, scalar_raw, scalar_type}
use Rattle.vortex_value.specs.declared.scalars.Scalar.{Scalar}
use Rattle.vortex_filter.specs.declared.error.FilterError.{FilterError}
use Rattle.vortex_filter.specs.declared.filter.Filter.{Filter, fold-Filter}
use Rattle.vortex_filter.specs.declared.filter.Filter.TheOpen.{Filter-F}
use Rattle.vortex_filter.specs.Checking.{Test, asks, beginning, comparing, matching, nothing}
use Rattle.vortex_filter.specs.Formula.{formula}

-- the literals of a variant, from those of its parts
abbrev pub literals_step : Filter-F (List Scalar) → List Scalar
literals_step (Filter-F.Constant t) = []
literals_step (Filter-F.Compare column op literal) = literal ∷ []
literals_step (Filter-F.IsNull column) = []
literals_step (Filter-F.In column literals) = literals.items
literals_step (Filter-F.Between column lower upper) = lower ∷ upper ∷ []
literals_step (Filter-F.StartsWith column prefix) = prefix ∷ []
literals_step (Filter-F.Like column pattern case) = []
literals_step (Filter-F.And f g) = f.value ++ g.value
literals_step (Filter-F.Or f g) = f.value ++ g.value
literals_step (Filter-F.Not f) = f.value

-- the literals of a filter, in reading order
abbrev pub literals_of : Filter → List Scalar
literals_of = fold-Filter (List Scalar) literals_step

-- the tests of a variant, from those of its parts
abbrev pub literal_tests_step : Filter-F (List (Test Scalar)) → List (Test Scalar)
literal_tests_step (Filter-F.Constant t) = []
literal_tests_step (Filter-F.Compare column op literal) = asks column (comparing (literal ∷ []))
literal_tests_step (Filter-F.IsNull column) = asks column nothing
literal_tests_step (Filter-F.In column literals) = asks column (comparing literals.items)
literal_tests_step (Filter-F.Between column lower upper) = asks column (comparing (lower ∷ upper ∷ []))
literal_tests_step (Filter-F.StartsWith column prefix) = asks column (beginning prefix)
literal_tests_step (Filter-F.Like column pattern case) = asks column matching
literal_tests_step (Filter-F.And f g) = f.value ++ g.value
literal_tests_step (Filter-F.Or f g) = f.value ++ g.value
literal_tests_step (Filter-F.Not f) = f.value

-- the tests of a filter, in reading order, with its literals as scalars
abbrev pub literal_tests : Filter → List (Test Scalar)
literal_tests = fold-Filter (List (Test Scalar)) literal_tests_step

-- ---- validity

-- each of the scalars is valid for its type
abbrev pub AreValid : List Scalar → Type 0
AreValid xs = AllByRecursion IsValid xs

-- if a filter was made, its literals are valid
abbrev pub MakesValid : Result Filter FilterError → Type 0
MakesValid r = IfOk r (λ g. AreValid (literals_of g))

-- ---- copies

-- the type and the raw value of a scalar, with the `PType` of each integer
abbrev pub exactly_of : Scalar → TypeTree × RawTree
exactly_of x = (scalar_type x, scalar_raw x)

-- if a filter was made, its literals are these scalars, each with its type and its raw value
abbrev pub MakesCopies : List Scalar → Result Filter FilterError → Type 0
MakesCopies xs r = IfOk r (λ g. map exactly_of (literals_of g) ≡ map exactly_of xs)

-- Filters of one formula, each with valid literals, have the same literals: each with its type and its raw value.
abbrev pub FormulasSayLiterals : Type 0
FormulasSayLiterals = (f g : Filter) → AreValid (literals_of f) → AreValid (literals_of g) → formula f ≡ formula g → map exactly_of (literals_of f) ≡ map exactly_of (literals_of g)
