-- Steps of coercing a filter: where memory is asked for.
use Rattle.std.proofs.Common.{◌≡◌, ◌≢◌, inl, inr, ℕ, ◌+◌, true, false, ◌==◌, List, [], ◌∷◌, ◌++◌, length, map, Vec, Global, Box, Some, Result, Ok, Err, IfErr, MatchResult, sym, subst, ◌∙◌, true≢false, rules}
use Rattle.std.specs.List.{AllByRecursion, slice_get}
use Rattle.like_patterns.specs.declared.case.Case.{Case}
use Rattle.like_patterns.specs.Patterns.{Part}
use Rattle.vortex_dtype.specs.Parts.{is_utf8_type}
use Rattle.vortex_dtype.specs.TypeTree.{TypeTree}
use Rattle.vortex_value.specs.TypesWithin.{HasNoVariant}
use Rattle.vortex_value.specs.declared.scalars.Scalar.{Scalar}
use Rattle.vortex_filter.specs.declared.error.FilterError.{FilterError}
use Rattle.vortex_filter.specs.declared.error.FilterError.TheVariants.{OutOfMemory, NoColumn, HasVariant, TypesDiffer}
use Rattle.vortex_filter.specs.declared.filter.Filter.{Filter, Constant, Compare, IsNull, In, Between, StartsWith, Like, And, Or, Not, the_lemmas}
use Rattle.vortex_filter.specs.declared.operator.CompareOperator.{CompareOperator}
use Rattle.vortex_filter.specs.declared.truth.Truth.{Truth}
use Rattle.vortex_filter.specs.CheckSteps.{answer_behind, behind}
use Rattle.vortex_filter.specs.Checking.{Demand, IsOrderedFor, beginning, comparing, matching, nothing}
use Rattle.vortex_filter.specs.CoerceMemory.{AsksAmong, AsksIn, MayRunOut, Passes, RunsOutOnly, Task, box_task, list_task, tasks_of, test_task}
use Rattle.vortex_filter.specs.Coerces.{CoercesTest}
use Rattle.vortex_filter.specs.Coercing.{IsCoercible, coerced_cell, position_in}
use Rattle.vortex_filter.specs.Formula.{Formula, both, either, formula, negation, pattern_test, prefix_test}
use Rattle.vortex_filter.specs.Makes.{Makes, OfParts}
use Rattle.vortex_filter.specs.Positions.{comparison_of, member_among, range_of}
use Rattle.vortex_cells.specs.Cells.{cell_of}
use Rattle.vortex_value.specs.Size.{capped}
use Rattle.vortex_filter.proofs.CheckLaws.{text_test}
use Rattle.vortex_filter.proofs.CoerceSteps.{NoOrdered}

-- ---- the tasks of each kind of filter

pub tasks-Constant : (t : Truth) → tasks_of (Constant t) ≡ []
tasks-Constant t = search (rules, the_lemmas)

pub tasks-Compare : (k : ℕ) (op : CompareOperator) (x : Scalar) → tasks_of (Compare k op x) ≡ test_task k (comparing (x ∷ [])) ∷ []
tasks-Compare k op x = search (rules, the_lemmas)

pub tasks-IsNull : (k : ℕ) → tasks_of (IsNull k) ≡ test_task k nothing ∷ []
tasks-IsNull k = search (rules, the_lemmas)

pub tasks-In : (k : ℕ) (xs : Vec Scalar Global) → tasks_of (In k xs) ≡ list_task k xs.items ∷ []
tasks-In k xs = search (rules, the_lemmas)

pub tasks-Between : (k : ℕ) (x y : Scalar) → tasks_of (Between k x y) ≡ test_task k (comparing (x ∷ y ∷ [])) ∷ []
tasks-Between k x y = search (rules, the_lemmas)

pub tasks-StartsWith : (k : ℕ) (p : Scalar) → tasks_of (StartsWith k p) ≡ test_task k (beginning p) ∷ []
tasks-StartsWith k p = search (rules, the_lemmas)

pub tasks-Like : (k : ℕ) (parts : List Part) (case : Case) → tasks_of (Like k parts case) ≡ test_task k matching ∷ []
tasks-Like k parts case = search (rules, the_lemmas)

pub tasks-And : (f g : Box Filter Global) → tasks_of (And f g) ≡ tasks_of f.value ++ (tasks_of g.value ++ box_task ∷ [])
tasks-And f g = search (rules, the_lemmas)

pub tasks-Or : (f g : Box Filter Global) → tasks_of (Or f g) ≡ tasks_of f.value ++ (tasks_of g.value ++ box_task ∷ [])
tasks-Or f g = search (rules, the_lemmas)

pub tasks-Not : (f : Box Filter Global) → tasks_of (Not f) ≡ tasks_of f.value ++ box_task ∷ []
tasks-Not f = search (rules, the_lemmas)

-- ---- other refusals

pub no_column : (k : ℕ) (P : Type 0) → NoColumn 0 k ≡ OutOfMemory → P
no_column k P e = absurd cc

pub types_differ : (k : ℕ) (P : Type 0) → TypesDiffer 0 k ≡ OutOfMemory → P
types_differ k P e = absurd cc

-- what stands behind other tests is out of memory where it was
behind_memory : (n : ℕ) (e : FilterError) → behind n e ≡ OutOfMemory → e ≡ OutOfMemory
behind_memory n OutOfMemory h = h
behind_memory n (NoColumn m k) h = let no : NoColumn (capped (n + m)) k ≡ OutOfMemory = h in absurd cc
behind_memory n (HasVariant m k) h = let no : HasVariant (capped (n + m)) k ≡ OutOfMemory = h in absurd cc
behind_memory n (TypesDiffer m k) h = let no : TypesDiffer (capped (n + m)) k ≡ OutOfMemory = h in absurd cc

-- ---- tests of a column of a type

pub compared_asks : (t : TypeTree) (x : Scalar) (r : Result Filter FilterError) → IsCoercible t x → IfErr r (λ e. e ≡ OutOfMemory → AsksAmong t (x ∷ []))
compared_asks t x (Ok g) h = tt
compared_asks t x (Err e) h = λ is. inr (h, tt)

pub ranged_asks : (t : TypeTree) (x y : Scalar) (r : Result Filter FilterError) → IsCoercible t x → IsCoercible t y → IfErr r (λ e. e ≡ OutOfMemory → AsksAmong t (x ∷ y ∷ []))
ranged_asks t x y (Ok g) h i = tt
ranged_asks t x y (Err e) h i = λ is. inr (h, inr (i, tt))

pub some_listed : (xs : List Scalar) → (length xs == 0) ≡ false → xs ≢ []
some_listed [] e = absurd (true≢false e)
some_listed (x ∷ xs) e = λ n. absurd cc

pub listed_asks : (xs : List Scalar) (r : Result Filter FilterError) → (length xs == 0) ≡ false → IfErr r (λ e. e ≡ OutOfMemory → xs ≢ [])
listed_asks xs (Ok g) e = tt
listed_asks xs (Err d) e = λ is. some_listed xs e

pub pattern_asks : (t : TypeTree) (r : Result Filter FilterError) → is_utf8_type t ≡ true → IfErr r (λ e. e ≡ OutOfMemory → AsksIn t matching)
pattern_asks t (Ok g) e = tt
pattern_asks t (Err d) e = λ is. (text_test t).0 e

-- ---- a test and its column

module _ (columns : List TypeTree) (k : ℕ) (t : TypeTree) (r : Result Filter FilterError) where
  test_asked : (f : Formula) (vs : List Scalar) (d : Demand Scalar) (q : Result Filter FilterError) → slice_get columns k ≡ Some t → IsOrderedFor d t → CoercesTest t d f vs k q → IfErr q (λ e. e ≡ OutOfMemory → AsksIn t d) → RunsOutOnly columns (test_task k d ∷ []) q
  test_asked f vs d (Ok g) there ordered h m = (record { dtype = t; there = there; ordered = ordered; suits = h.1 }, tt)
  test_asked f vs d (Err e) there ordered h m = λ is. inl (t, there, ordered, m is)

  list_asked : (f : Formula) (xs : List Scalar) (q : Result Filter FilterError) → slice_get columns k ≡ Some t → HasNoVariant t → CoercesTest t (comparing xs) f xs k q → IfErr q (λ e. e ≡ OutOfMemory → xs ≢ []) → RunsOutOnly columns (list_task k xs ∷ []) q
  list_asked f xs (Ok g) there ordered h m = (record { dtype = t; there = there; ordered = ordered; suits = h.1 }, tt)
  list_asked f xs (Err e) there ordered h m = λ is. inl (t, there, ordered, m is)

  pub comparison_asked : (op : CompareOperator) (x : Scalar) → (slice_get columns k ≡ Some t) × HasNoVariant t → CoercesTest t (comparing (x ∷ [])) (comparison_of k op (position_in t (cell_of x))) (x ∷ []) k r → IfErr r (λ e. e ≡ OutOfMemory → AsksAmong t (x ∷ []))
      → RunsOutOnly columns (test_task k (comparing (x ∷ [])) ∷ []) r
  comparison_asked op x e h m = test_asked (comparison_of k op (position_in t (cell_of x))) (x ∷ []) (comparing (x ∷ [])) r e.0 e.1 h m

  pub membership_asked : (xs : List Scalar) → (slice_get columns k ≡ Some t) × HasNoVariant t → CoercesTest t (comparing xs) (member_among k (map (position_in t) (map cell_of xs))) xs k r → IfErr r (λ e. e ≡ OutOfMemory → xs ≢ [])
      → RunsOutOnly columns (list_task k xs ∷ []) r
  membership_asked xs e h m = list_asked (member_among k (map (position_in t) (map cell_of xs))) xs r e.0 e.1 h m

  pub range_asked : (x y : Scalar) → (slice_get columns k ≡ Some t) × HasNoVariant t → CoercesTest t (comparing (x ∷ y ∷ [])) (range_of k (position_in t (cell_of x)) (position_in t (cell_of y))) (x ∷ y ∷ []) k r → IfErr r (λ e. e ≡ OutOfMemory → AsksAmong t (x ∷ y ∷ []))
      → RunsOutOnly columns (test_task k (comparing (x ∷ y ∷ [])) ∷ []) r
  range_asked x y e h m = test_asked (range_of k (position_in t (cell_of x)) (position_in t (cell_of y))) (x ∷ y ∷ []) (comparing (x ∷ y ∷ [])) r e.0 e.1 h m

  pub prefix_asked : (p : Scalar) → (slice_get columns k ≡ Some t) × HasNoVariant t → CoercesTest t (beginning p) (prefix_test k (coerced_cell t (cell_of p))) (p ∷ []) k r → IfErr r (λ e. e ≡ OutOfMemory → AsksIn t (beginning p))
      → RunsOutOnly columns (test_task k (beginning p) ∷ []) r
  prefix_asked p e h m = test_asked (prefix_test k (coerced_cell t (cell_of p))) (p ∷ []) (beginning p) r e.0 e.1 h m

  pub pattern_asked : (case : Case) (parts : List Part) → (slice_get columns k ≡ Some t) × HasNoVariant t → CoercesTest t matching (pattern_test k case parts) [] k r → IfErr r (λ e. e ≡ OutOfMemory → AsksIn t matching)
      → RunsOutOnly columns (test_task k matching ∷ []) r
  pattern_asked case parts e h m = test_asked (pattern_test k case parts) [] matching r e.0 e.1 h m

pub unordered_asked : (columns : List TypeTree) (k : ℕ) (tasks : List Task) (e : FilterError) → NoOrdered columns k e → RunsOutOnly columns tasks (Err e)
unordered_asked columns k tasks e (inl h) = λ is. no_column k (MayRunOut columns tasks) (sym h.0 ∙ is)
unordered_asked columns k tasks e (inr h) = λ is. has_variant k (MayRunOut columns tasks) (sym h.1 ∙ is)
  where
    has_variant : (k : ℕ) (P : Type 0) → HasVariant 0 k ≡ OutOfMemory → P
    has_variant k P e = absurd cc

pub null_asked : (columns : List TypeTree) (k : ℕ) (t : TypeTree) (g : Filter) → Some t ≡ slice_get columns k → RunsOutOnly columns (test_task k nothing ∷ []) (Ok g)
null_asked columns k t g e = (record { dtype = t; there = sym e; ordered = tt; suits = tt }, tt)

-- ---- connectives

module _ (columns : List TypeTree) where
  front_asks : (ps qs : List Task) → MayRunOut columns ps → MayRunOut columns (ps ++ qs)
  front_asks [] qs h = absurd h
  front_asks (p ∷ ps) qs (inl h) = inl h
  front_asks (p ∷ ps) qs (inr h) = inr (h.0, front_asks ps qs h.1)

  rest_asks : (ps qs : List Task) → AllByRecursion (Passes columns) ps → MayRunOut columns qs → MayRunOut columns (ps ++ qs)
  rest_asks [] qs h m = m
  rest_asks (p ∷ ps) qs h m = inr (h.0, rest_asks ps qs h.1 m)

  both_pass : (ps qs : List Task) → AllByRecursion (Passes columns) ps → AllByRecursion (Passes columns) qs → AllByRecursion (Passes columns) (ps ++ qs)
  both_pass [] qs h i = i
  both_pass (p ∷ ps) qs h i = (h.0, both_pass ps qs h.1 i)

  joined_asked : (join : Formula → Formula → Formula) (ps qs : List Task) (n : ℕ) (l r s : Result Filter FilterError) → RunsOutOnly columns ps l → RunsOutOnly columns qs r
      → OfParts (λ a b. Makes (join (formula a) (formula b)) s) (λ e. s ≡ Err e) l (answer_behind n r) → RunsOutOnly columns (ps ++ (qs ++ box_task ∷ [])) s
  joined_asked join ps qs n (Err e) r s h k w =
      subst (RunsOutOnly columns (ps ++ (qs ++ box_task ∷ []))) (sym w) (λ is. front_asks ps (qs ++ box_task ∷ []) (h is))
  joined_asked join ps qs n (Ok a) (Err e) s h k w =
      subst (RunsOutOnly columns (ps ++ (qs ++ box_task ∷ []))) (sym w) (λ is. rest_asks ps (qs ++ box_task ∷ []) h (front_asks qs (box_task ∷ []) (k (behind_memory n e is))))
  joined_asked join ps qs n (Ok a) (Ok b) (Ok x) h k w = both_pass ps (qs ++ box_task ∷ []) h (both_pass qs (box_task ∷ []) k (tt, tt))
  joined_asked join ps qs n (Ok a) (Ok b) (Err e) h k w = λ is. rest_asks ps (qs ++ box_task ∷ []) h (rest_asks qs (box_task ∷ []) k (inl tt))

  pub negation_asked : (ps : List Task) (l s : Result Filter FilterError) → RunsOutOnly columns ps l → MatchResult l (λ a. Makes (negation (formula a)) s) (λ e. s ≡ Err e) → RunsOutOnly columns (ps ++ box_task ∷ []) s
  negation_asked ps (Err e) s h w = subst (RunsOutOnly columns (ps ++ box_task ∷ [])) (sym w) (λ is. front_asks ps (box_task ∷ []) (h is))
  negation_asked ps (Ok a) (Ok x) h w = both_pass ps (box_task ∷ []) h (tt, tt)
  negation_asked ps (Ok a) (Err e) h w = λ is. rest_asks ps (box_task ∷ []) h (inl tt)

  -- of a filter that the code borrows, with its parts
  module _ (F : Filter) (f g : Box Filter Global) (a b : Filter) (n : ℕ) (l r m s : Result Filter FilterError) where
    part_asked : (x y : Filter) (q : Result Filter FilterError) → x ≡ y → RunsOutOnly columns (tasks_of x) q → RunsOutOnly columns (tasks_of y) q
    part_asked x y q d h = subst (λ (z : Filter). RunsOutOnly columns (tasks_of z) q) d h

    whole_asked : (ts : List Task) (x : Filter) → F ≡ x → tasks_of x ≡ ts → RunsOutOnly columns ts s → RunsOutOnly columns (tasks_of F) s
    whole_asked ts x q e h = part_asked x F s (sym q) (subst (λ (us : List Task). RunsOutOnly columns us s) (sym e) h)

    pub both_asked : F ≡ And f g → a ≡ f.value → b ≡ g.value → RunsOutOnly columns (tasks_of a) l → RunsOutOnly columns (tasks_of b) r → m ≡ answer_behind n r
        → OfParts (λ x y. Makes (both (formula x) (formula y)) s) (λ e. s ≡ Err e) l m → RunsOutOnly columns (tasks_of F) s
    both_asked q da db h k e w =
        whole_asked (tasks_of f.value ++ (tasks_of g.value ++ box_task ∷ [])) (And f g) q (tasks-And f g)
        (joined_asked both (tasks_of f.value) (tasks_of g.value) n l r s (part_asked a f.value l da h) (part_asked b g.value r db k) (subst (OfParts (λ x y. Makes (both (formula x) (formula y)) s) (λ d. s ≡ Err d) l) e w))

    pub either_asked : F ≡ Or f g → a ≡ f.value → b ≡ g.value → RunsOutOnly columns (tasks_of a) l → RunsOutOnly columns (tasks_of b) r → m ≡ answer_behind n r
        → OfParts (λ x y. Makes (either (formula x) (formula y)) s) (λ e. s ≡ Err e) l m → RunsOutOnly columns (tasks_of F) s
    either_asked q da db h k e w =
        whole_asked (tasks_of f.value ++ (tasks_of g.value ++ box_task ∷ [])) (Or f g) q (tasks-Or f g)
        (joined_asked either (tasks_of f.value) (tasks_of g.value) n l r s (part_asked a f.value l da h) (part_asked b g.value r db k) (subst (OfParts (λ x y. Makes (either (formula x) (formula y)) s) (λ d. s ≡ Err d) l) e w))

pub ruleset tasks = (negation_asked, tasks-Constant, tasks-Compare, tasks-IsNull, tasks-In, tasks-Between, tasks-StartsWith, tasks-Like, tasks-And, tasks-Or, tasks-Not)

pub ruleset refusals = (no_column, types_differ, null_asked)

-- ---- the whole filter

pub memory_coerced : (columns : List TypeTree) (tasks : List Task) (r : Result Filter FilterError) → RunsOutOnly columns tasks r → IfErr r (λ e. e ≡ OutOfMemory → MayRunOut columns tasks)
memory_coerced columns tasks (Ok g) h = tt
memory_coerced columns tasks (Err e) h = h
