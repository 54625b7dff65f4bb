-- Where coercing a filter asks for memory: before that, each refusal is exact.
use Rattle.std.specs.Prelude.{◌≡◌, ◌≢◌, ◌⊎◌, ℕ, false, List, [], ◌∷◌, ◌++◌, Some, Result, MatchResult, slice_get}
use Rattle.std.specs.List.{AllByRecursion}
use Rattle.vortex_dtype.specs.TypeTree.{Same, TypeTree}
use Rattle.vortex_value.specs.TypesWithin.{HasNoVariant}
use Rattle.vortex_value.specs.Values.Scalars.{IsValid, scalar_content, scalar_type}
use Rattle.vortex_value.specs.declared.scalars.Scalar.{Scalar}
use Rattle.vortex_cells.specs.Cells.{cell_of}
use Rattle.vortex_filter.specs.declared.error.FilterError.{FilterError}
use Rattle.vortex_filter.specs.declared.error.FilterError.TheVariants.{OutOfMemory}
use Rattle.vortex_filter.specs.declared.filter.Filter.{Filter, fold-Filter}
use Rattle.vortex_filter.specs.declared.filter.Filter.TheOpen.{Filter-F}
use Rattle.vortex_filter.specs.Checking.{Demand, Fits, HoldsStrings, HoldsText, IsOrderedFor, beginning, comparing, matching, nothing}
use Rattle.vortex_filter.specs.Coercing.{IsCoercible, lacks}
use Rattle.vortex_filter.specs.Extensions.{reinterprets}

-- ---- literals

-- the literal is copied, since it is of the column's type up to nullability, or a cast of it is tried
abbrev pub IsCopied : TypeTree → Scalar → Type 0
IsCopied t x = Same t (scalar_type x) ⊎ (IsValid x × (lacks t (cell_of x) ≡ false) × (reinterprets (scalar_type x) t (scalar_content x) ≡ false))

-- one of the literals is, and those before it can be made ones of the type; or all of them can
abbrev pub AsksAmong : TypeTree → List Scalar → Type 0
AsksAmong t [] = Unit {0}
AsksAmong t (x ∷ xs) = IsCopied t x ⊎ (IsCoercible t x × AsksAmong t xs)

-- the same of the literals of a demand, where what may begin with a literal is a string, or bytes; or a pattern is copied
abbrev pub AsksIn : TypeTree → Demand Scalar → Type 0
AsksIn t nothing = ⊥
AsksIn t (comparing xs) = AsksAmong t xs
AsksIn t (beginning p) = HoldsStrings t × AsksAmong t (p ∷ [])
AsksIn t matching = HoldsText t

-- ---- filters

-- what is done to coerce a filter
pub data Task : Type 0 where
  -- a test of a column is coerced
  test_task : ℕ → Demand Scalar → Task
  -- so is one with a list of literals, for which there is room first
  list_task : ℕ → List Scalar → Task
  -- parts are put into boxes
  box_task : Task

abbrev pub tasks_step : Filter-F (List Task) → List Task
tasks_step (Filter-F.Constant t) = []
tasks_step (Filter-F.Compare column op literal) = test_task column (comparing (literal ∷ [])) ∷ []
tasks_step (Filter-F.IsNull column) = test_task column nothing ∷ []
tasks_step (Filter-F.In column literals) = list_task column literals.items ∷ []
tasks_step (Filter-F.Between column lower upper) = test_task column (comparing (lower ∷ upper ∷ [])) ∷ []
tasks_step (Filter-F.StartsWith column prefix) = test_task column (beginning prefix) ∷ []
tasks_step (Filter-F.Like column pattern case) = test_task column matching ∷ []
tasks_step (Filter-F.And f g) = f.value ++ (g.value ++ box_task ∷ [])
tasks_step (Filter-F.Or f g) = f.value ++ (g.value ++ box_task ∷ [])
tasks_step (Filter-F.Not f) = f.value ++ box_task ∷ []

-- what is done to coerce a filter, in order
abbrev pub tasks_of : Filter → List Task
tasks_of = fold-Filter (List Task) tasks_step

-- the task is done, if there is memory
abbrev pub Passes : List TypeTree → Task → Type 0
Passes columns (test_task k d) = Fits IsCoercible columns (record { column = k; demand = d })
Passes columns (list_task k xs) = Fits IsCoercible columns (record { column = k; demand = comparing xs })
Passes columns box_task = Unit {0}

-- the task asks for memory: if it is a test, its column is there, and its values have an order
abbrev pub AsksFor : List TypeTree → Task → Type 0
AsksFor columns (test_task k d) = (t : TypeTree) × (slice_get columns k ≡ Some t) × IsOrderedFor d t × AsksIn t d
AsksFor columns (list_task k xs) = (t : TypeTree) × (slice_get columns k ≡ Some t) × HasNoVariant t × (xs ≢ [])
AsksFor columns box_task = Unit {0}

-- one of the tasks asks for memory, and those before it are done
abbrev pub MayRunOut : List TypeTree → List Task → Type 0
MayRunOut columns [] = ⊥
MayRunOut columns (task ∷ tasks) = AsksFor columns task ⊎ (Passes columns task × MayRunOut columns tasks)

-- all tasks are done, or one is refused; out of memory only where one asks for it
abbrev pub RunsOutOnly : List TypeTree → List Task → Result Filter FilterError → Type 0
RunsOutOnly columns tasks r = MatchResult r (λ g. AllByRecursion (Passes columns) tasks) (λ e. e ≡ OutOfMemory → MayRunOut columns tasks)
