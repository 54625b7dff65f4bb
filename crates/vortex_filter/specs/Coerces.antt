-- What a call answers that coerces a filter or a part of one.
use Rattle.std.specs.Prelude.{◌≡◌, ◌⊎◌, ℕ, ℤ, pos, List, map, if◌then◌else◌, Option, Some, None, Result, MatchResult, slice_get, Vec}
use Rattle.std.specs.Borrow.{Bor}
use Rattle.std.specs.Global.{Global}
use Rattle.std.specs.List.{AllByRecursion}
use Rattle.std.specs.Ordering.{int_cmp}
use Rattle.std.specs.declared.cmp.Ordering.{Ordering}
use Rattle.vortex_dtype.specs.TypeOf.{type_of}
use Rattle.vortex_dtype.specs.TypeTree.{TypeTree, integer_type}
use Rattle.vortex_dtype.specs.declared.ptype.PType.{PType}
use Rattle.vortex_dtype.specs.declared.types.DType.{DType}
use Rattle.vortex_pvalue.specs.Numbers.{in_range}
use Rattle.vortex_value.specs.TypesWithin.{HasNoVariant}
use Rattle.vortex_value.specs.Values.Content.{Content, whole}
use Rattle.vortex_value.specs.Values.Scalars.{IsValid}
use Rattle.vortex_value.specs.declared.scalars.Scalar.{Scalar}
use Rattle.vortex_cells.specs.Cells.{cell_of}
use Rattle.vortex_filter.specs.declared.error.FilterError.{FilterError}
use Rattle.vortex_filter.specs.declared.error.FilterError.TheVariants.{OutOfMemory, NoColumn, HasVariant, TypesDiffer}
use Rattle.vortex_filter.specs.declared.filter.Filter.{Filter}
use Rattle.vortex_filter.specs.declared.literals.Position.{Position}
use Rattle.vortex_filter.specs.Checking.{AllFit, Demand, RefusesFirst, Suits, Test}
use Rattle.vortex_filter.specs.Coercing.{IsCoercible, coerced, lacks_number, position_in, side}
use Rattle.vortex_filter.specs.FilterLiterals.{AreValid, literals_of}
use Rattle.vortex_filter.specs.Formula.{Formula, formula}
use Rattle.vortex_filter.specs.Positions.{cells_of, position_tree, scalars_of}

-- a filter of these tests with these literals is one with this formula coerced, if each literal can be made one of its
-- column's type, and has valid literals if these are; else it is out of memory, or the first test is refused with a literal
-- that cannot
abbrev pub Coerces : List TypeTree → Formula → List (Test Scalar) → List Scalar → Result Filter FilterError → Type 0
Coerces columns f ts literals r =
    MatchResult r (λ g. (formula g ≡ coerced columns f) × AllFit IsCoercible columns ts × (AreValid literals → AreValid (literals_of g))) (λ e. (e ≡ OutOfMemory) ⊎ RefusesFirst IsCoercible columns ts e)

-- the refusal of a column k whose literals have not the property
abbrev pub RefusesLiterals : ℕ → Type 0 → FilterError → Type 0
RefusesLiterals k property e = (e ≡ OutOfMemory) ⊎ ((e ≡ TypesDiffer 0 k) × ¬ property)

-- the same for one test of column k, of the type t
abbrev pub CoercesTest : TypeTree → Demand Scalar → Formula → List Scalar → ℕ → Result Filter FilterError → Type 0
CoercesTest t d f literals k r = MatchResult r (λ g. (formula g ≡ f) × Suits IsCoercible d t × (AreValid literals → AreValid (literals_of g))) (RefusesLiterals k (Suits IsCoercible d t))

-- where a literal stands, with a valid scalar if it is valid
abbrev pub StandsAt : TypeTree → Scalar → Position → Type 0
StandsAt t x p = (position_tree p ≡ position_in t (cell_of x)) × IsCoercible t x × (IsValid x → AreValid (scalars_of p))

-- the same for one literal
abbrev pub CoercesLiteral : TypeTree → Scalar → ℕ → Result Position FilterError → Type 0
CoercesLiteral t x k r = MatchResult r (StandsAt t x) (RefusesLiterals k (IsCoercible t x))

-- the same for several literals, of which those that the type lacks are left out
abbrev pub CoercesLiterals : TypeTree → List Scalar → ℕ → Result (Vec Scalar Global) FilterError → Type 0
CoercesLiterals t xs k r = MatchResult r (λ ys. (map cell_of ys.items ≡ cells_of (map (position_in t) (map cell_of xs))) × AllByRecursion (IsCoercible t) xs × (AreValid xs → AreValid ys.items)) (RefusesLiterals k (AllByRecursion (IsCoercible t) xs))

-- the type of a column whose values have an order; else the column is not there, or a variant stands in its type
abbrev pub GivesOrdered : List TypeTree → ℕ → Result (Bor DType) FilterError → Type 0
GivesOrdered columns k r =
    MatchResult r (λ d. (slice_get columns k ≡ Some (type_of d.now)) × HasNoVariant (type_of d.now))
    (λ e. ((e ≡ NoColumn 0 k) × (slice_get columns k ≡ None)) ⊎ ((t : TypeTree) × (e ≡ HasVariant 0 k) × (slice_get columns k ≡ Some t) × ¬ (HasNoVariant t)))

-- ---- numbers

-- the integer type that it is
abbrev pub integer_in : TypeTree → Option PType
integer_in (integer_type k n) = Some k
integer_in _ = None

-- the number that it is
abbrev pub number_in : Content → Option ℤ
number_in (whole z) = Some z
number_in _ = None

-- how each number of an integer type stands to one that the type lacks
abbrev pub number_lacking : PType → ℤ → Option Ordering
number_lacking k z = if in_range k z then None else Some (int_cmp (pos 0) z)

-- the same, if both are integer types and there is a number
abbrev pub lacking_of : Option PType → Option PType → Option ℤ → Option Ordering
lacking_of (Some k) (Some l) (Some z) = number_lacking k z
lacking_of _ _ _ = None

-- how each number of a type stands to a literal of another, if that is an integer which the type lacks
abbrev pub lacking_order : TypeTree → TypeTree → Content → Option Ordering
lacking_order t u c = if lacks_number t u c then Some (side c) else None
