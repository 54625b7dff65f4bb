-- Which tests of columns stand in a formula, whether they fit the types of the columns, and which is the first that does not.
use Rattle.std.specs.Prelude.{◌≡◌, ℕ, List, [], ◌∷◌, ◌++◌, length, Some, None, IsSomeAnd, slice_get}
use Rattle.std.specs.List.{AllByRecursion}
use Rattle.vortex_dtype.specs.TypeTree.{TypeTree, Same, utf8_type, binary_type}
use Rattle.vortex_value.specs.Size.{capped}
use Rattle.vortex_value.specs.TypesWithin.{HasNoVariant}
use Rattle.vortex_cells.specs.Cells.{Cell}
use Rattle.vortex_filter.specs.declared.error.FilterError.{FilterError}
use Rattle.vortex_filter.specs.declared.error.FilterError.TheVariants.{OutOfMemory, NoColumn, HasVariant, TypesDiffer}
use Rattle.vortex_filter.specs.Formula.{Formula, constant, comparison, null_test, membership, range, prefix_test, pattern_test, both, either, negation}

-- what a test asks of its column: nothing; that it compares with these literals; that it holds what may begin with this one;
-- that it holds what may match a pattern
pub data Demand (X : Type 0) : Type 0 where
  nothing : Demand X
  comparing : List X → Demand X
  beginning : X → Demand X
  matching : Demand X

-- a test of a column
pub record Test (X : Type 0) : Type 0 where
  pub column : ℕ
  pub demand : Demand X

-- the one test of a column
abbrev pub asks : {X : Type 0} → ℕ → Demand X → List (Test X)
asks k d = record { column = k; demand = d } ∷ []

-- the tests in a formula, in reading order
abbrev pub tests : Formula → List (Test Cell)
tests (constant t) = []
tests (comparison k op x) = asks k (comparing (x ∷ []))
tests (null_test k) = asks k nothing
tests (membership k xs) = asks k (comparing xs)
tests (range k x y) = asks k (comparing (x ∷ y ∷ []))
tests (prefix_test k p) = asks k (beginning p)
tests (pattern_test k case parts) = asks k matching
tests (both f g) = tests f ++ tests g
tests (either f g) = tests f ++ tests g
tests (negation f) = tests f

-- ---- one test

-- strings, or bytes
abbrev pub HoldsStrings : TypeTree → Type 0
HoldsStrings (utf8_type n) = Unit {0}
HoldsStrings (binary_type n) = Unit {0}
HoldsStrings _ = ⊥

-- strings alone
abbrev pub HoldsText : TypeTree → Type 0
HoldsText (utf8_type n) = Unit {0}
HoldsText _ = ⊥

-- the literal is of the type, up to nullability
abbrev pub IsOfType : TypeTree → Cell → Type 0
IsOfType t x = Same t x.typed

-- the values of the type have an order, if the demand wants one
abbrev pub IsOrderedFor : {X : Type 0} → Demand X → TypeTree → Type 0
IsOrderedFor nothing t = Unit {0}
IsOrderedFor (comparing xs) t = HasNoVariant t
IsOrderedFor (beginning p) t = HasNoVariant t
IsOrderedFor matching t = HasNoVariant t

-- P holds of the type and each literal; what may begin with a literal is a string, or bytes, and what may match a pattern a
-- string
abbrev pub Suits : {X : Type 0} → (TypeTree → X → Type 0) → Demand X → TypeTree → Type 0
Suits P nothing t = Unit {0}
Suits P (comparing xs) t = AllByRecursion (P t) xs
Suits P (beginning p) t = HoldsStrings t × P t p
Suits P matching t = HoldsText t

-- the column of the test is there, its values have an order, and P holds of its type and each literal
pub record Fits {X : Type 0} (P : TypeTree → X → Type 0) (columns : List TypeTree) (test : Test X) : Type 0 where
  pub dtype : TypeTree
  pub there : slice_get columns test.column ≡ Some dtype
  pub ordered : IsOrderedFor test.demand dtype
  pub suits : Suits P test.demand dtype

-- e says of the test with this number why it does not fit: its column is not there; else a variant stands in the column's
-- type; else P fails
abbrev pub Refuses : {X : Type 0} → (TypeTree → X → Type 0) → List TypeTree → ℕ → Test X → FilterError → Type 0
Refuses P columns number test OutOfMemory = ⊥
Refuses P columns number test (NoColumn n k) = (n ≡ number) × (k ≡ test.column) × (slice_get columns test.column ≡ None)
Refuses P columns number test (HasVariant n k) = (n ≡ number) × (k ≡ test.column) × IsSomeAnd (slice_get columns test.column) (λ t. ¬ (IsOrderedFor test.demand t))
Refuses P columns number test (TypesDiffer n k) = (n ≡ number) × (k ≡ test.column) × IsSomeAnd (slice_get columns test.column) (λ t. IsOrderedFor test.demand t × ¬ (Suits P test.demand t))

-- ---- all tests

-- each test fits
abbrev pub AllFit : {X : Type 0} → (TypeTree → X → Type 0) → List TypeTree → List (Test X) → Type 0
AllFit P columns ts = AllByRecursion (Fits P columns) ts

-- e says which test is the first that does not fit, and why: the tests before it do
pub record RefusesFirst {X : Type 0} (P : TypeTree → X → Type 0) (columns : List TypeTree) (ts : List (Test X)) (e : FilterError) : Type 0 where
  pub before : List (Test X)
  pub test : Test X
  pub after : List (Test X)
  pub parts : ts ≡ before ++ test ∷ after
  pub fit : AllFit P columns before
  pub cause : Refuses P columns (capped (length before)) test e

-- each test of the formula fits the columns
abbrev pub FitsColumns : List TypeTree → Formula → Type 0
FitsColumns columns f = AllFit IsOfType columns (tests f)
