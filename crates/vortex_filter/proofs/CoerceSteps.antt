-- Steps of coercing a filter.
use Rattle.std.proofs.Common.{◌≡◌, ◌≢◌, ◌⊎◌, ◌↔◌, inl, inr, ℕ, zero, suc, ◌+◌, ◌<◌, ◌≤◌, ℤ, pos, Bool, true, false, not, ◌==◌, cond, IsTrue, List, [], ◌∷◌, ◌++◌, length, map, take, get_or, Vec, Global, Box, Option, Some, None, Result, Ok, Err, IfErr, IfOk, IsErrAnd, MatchResult, OnOk, Ordering, refl, sym, subst, ap, ap₂, ◌∙◌, arith}
use Rattle.std.specs.Borrow.{Bor}
use Rattle.std.specs.List.{AllByRecursion, slice_get}
use Rattle.std.specs.Option.{IsSomeAnd}
use Rattle.std.specs.Ordering.{int_cmp}
use Rattle.std.proofs.lemmas.Bool.{false≢true}
use Rattle.std.proofs.lemmas.Bool.Decides.{nat_tests}
use Rattle.std.proofs.lemmas.List.{map-append, take_all, take_more}
use Rattle.std.proofs.lemmas.Result.{err_from_is_err_and}
use Rattle.like_patterns.specs.declared.case.Case.{Case}
use Rattle.like_patterns.specs.Patterns.{Part}
use Rattle.vortex_dtype.specs.Parts.{is_utf8_type}
use Rattle.vortex_dtype.specs.TypeOf.{type_of}
use Rattle.vortex_dtype.specs.TypeTree.{TypeTree, as_nullable, binary_type, integer_type, utf8_type}
use Rattle.vortex_dtype.specs.declared.error.VortexError.{VortexError}
use Rattle.vortex_dtype.specs.declared.error.VortexError.TheVariants as why
use Rattle.vortex_dtype.specs.declared.nullability.Nullability.{Nullability}
use Rattle.vortex_dtype.specs.declared.ptype.PType.{PType}
use Rattle.vortex_dtype.specs.declared.types.DType.{DType}
use Rattle.vortex_dtype.specs.Lemmas.TypeLevels.{type_of-List, type_of-FixedSizeList, type_of-Map, type_of-Struct, type_of-Union, type_of-Extension}
use Rattle.vortex_pvalue.specs.Conversions.{IsNumber}
use Rattle.vortex_pvalue.specs.Numbers.{InRange, in_range}
use Rattle.vortex_pvalue.specs.RangeLaws.{in_range_false, in_range_true}
use Rattle.vortex_pvalue.specs.declared.pvalues.PValue.{PValue}
use Rattle.vortex_value.specs.CastAnswers.{AnswersCast}
use Rattle.vortex_value.specs.Casts.{CanCast, RefusesCast}
use Rattle.vortex_value.specs.Equality.{same_type}
use Rattle.vortex_value.specs.Lemmas.EqualityLaws.{same_type-Decides}
use Rattle.vortex_value.specs.Size.{capped}
use Rattle.vortex_value.specs.TypesWithin.{HasNoVariant}
use Rattle.vortex_value.specs.Values.Content.{Content, whole}
use Rattle.vortex_value.specs.Values.Scalars.{IsValid, scalar_content, scalar_raw, scalar_type}
use Rattle.vortex_value.specs.declared.scalars.Scalar.{Scalar}
use Rattle.vortex_cells.specs.Cells.{Cell, cell_of}
use Rattle.vortex_filter.specs.declared.error.FilterError.{FilterError}
use Rattle.vortex_filter.specs.declared.error.FilterError.TheVariants.{OutOfMemory, NoColumn, HasVariant, TypesDiffer}
use Rattle.vortex_filter.specs.declared.filter.Filter.{Filter, Constant, IsNull, In, And, Or}
use Rattle.vortex_filter.specs.declared.literals.Position.{Position}
use Rattle.vortex_filter.specs.declared.literals.Position.TheVariants.{Exactly, Lacking}
use Rattle.vortex_filter.specs.declared.operator.CompareOperator.{CompareOperator}
use Rattle.vortex_filter.specs.declared.operator.CompareOperator.TheVariants.{Gte, Lte}
use Rattle.vortex_filter.specs.declared.truth.Truth.{Truth}
use Rattle.vortex_filter.specs.CheckSteps.{answer_behind, behind, holds_strings}
use Rattle.vortex_filter.specs.Checking.{AllFit, Demand, FitsColumns, IsOrderedFor, RefusesFirst, Suits, Test, asks, beginning, comparing, matching, nothing, tests}
use Rattle.vortex_filter.specs.Coerces.{Coerces, CoercesLiteral, CoercesLiterals, CoercesTest, GivesOrdered, RefusesLiterals, StandsAt, integer_in, lacking_of, lacking_order, number_in, number_lacking}
use Rattle.vortex_filter.specs.Coercing.{IsCoercible, KeepsValue, by_column, coerced, coerced_cell, lacks, lacks_number, position_in, side}
use Rattle.vortex_filter.specs.Extensions.{reinterprets}
use Rattle.vortex_filter.specs.Formula.{Formula, constant, comparison, null_test, membership, range, prefix_test, pattern_test, both, either, negation, formula, truth}
use Rattle.vortex_filter.specs.FilterLiterals.{AreValid, MakesCopies, exactly_of, literal_tests, literals_of}
use Rattle.vortex_filter.specs.Makes.{Makes, OfParts}
use Rattle.vortex_filter.specs.Positions.{PositionTree, exactly, just_above, lacking, cells_of, compared_scalars, comparison_of, member_among, member_of, position_tree, prefix_of, range_of, scalars_at, scalars_of}
use Rattle.vortex_filter.specs.Rows.{IsRowOf, content_truth}
use Rattle.vortex_cells.specs.Variants.{has_variant}
use Rattle.vortex_filter.proofs.CheckLaws.{fit_both, fit_one, not_both, refuses_behind, refuses_front, refuses_one, strings_test, text_test}
use Rattle.vortex_filter.proofs.CoerceLaws.{NullableIsSame, coerced_fits, coerced_truth}
use Rattle.vortex_filter.proofs.FitProofs.{coerced_itself, fitting_position}
use Rattle.vortex_filter.proofs.LiteralSteps.{constant_valid, copies_valid, copy_valid, literals-And, literals-Between, literals-Compare, literals-Constant, literals-In, literals-IsNull, literals-Like, literals-Not, literals-Or, literals-StartsWith, valid_compared, valid_left, valid_right, valid_same, valid_with}
use Rattle.vortex_filter.proofs.Steps.{formula-And, formula-Between, formula-Compare, formula-Constant, formula-In, formula-IsNull, formula-Like, formula-Not, formula-Or, formula-StartsWith}
use Rattle.vortex_filter.proofs.TestSteps.{coercible_columns, count_is, fitting_coercible, tests-And, tests-Between, tests-Compare, tests-Constant, tests-In, tests-IsNull, tests-Like, tests-Not, tests-Or, tests-StartsWith}
use Rattle.vortex_cells.proofs.VariantSteps.{none-from_test, test-from_none}

-- ---- connectives

-- the literals of s are those of both parts, if both were made
abbrev Joins : Result Filter FilterError → Result Filter FilterError → Result Filter FilterError → Type 0
Joins l r s = OfParts (λ a b. IfOk s (λ x. literals_of x ≡ literals_of a ++ literals_of b)) (λ e. s ≡ Err e) l r

module _ (columns : List TypeTree) (join : Formula → Formula → Formula) (f g : Formula) (ps qs : List (Test Scalar)) (ls rs : List Scalar) (made : coerced columns (join f g) ≡ join (coerced columns f) (coerced columns g)) where
  refused_here : (e : FilterError) → (e ≡ OutOfMemory) ⊎ RefusesFirst IsCoercible columns (ps ++ qs) e → (s : Result Filter FilterError) → s ≡ Err e → Coerces columns (join f g) (ps ++ qs) (ls ++ rs) s
  refused_here e h s w = subst (Coerces columns (join f g) (ps ++ qs) (ls ++ rs)) (sym w) h

  made_here : (a b : Filter) (s : Result Filter FilterError) → Coerces columns f ps ls (Ok a) → Coerces columns g qs rs (Ok b)
      → Makes (join (formula a) (formula b)) s → IfOk s (λ x. literals_of x ≡ literals_of a ++ literals_of b) → Coerces columns (join f g) (ps ++ qs) (ls ++ rs) s
  made_here a b (Ok x) h k w m = (
    w ∙ ap₂ join h.0 k.0 ∙ sym made,
    fit_both IsCoercible columns ps qs h.1 k.1,
    λ v. valid_with (literals_of x) (literals_of a) (literals_of b) m (h.2 (valid_left ls rs v)) (k.2 (valid_right ls rs v)),
  )
  made_here a b (Err e) h k w m = inl w

  joined_coerces : (n : ℕ) → n ≡ capped (length ps) → (l r s : Result Filter FilterError) → Coerces columns f ps ls l → Coerces columns g qs rs r
      → OfParts (λ a b. Makes (join (formula a) (formula b)) s) (λ e. s ≡ Err e) l (answer_behind n r)
      → Joins l (answer_behind n r) s → Coerces columns (join f g) (ps ++ qs) (ls ++ rs) s
  joined_coerces n c (Err e) r s (inl o) k w m = refused_here e (inl o) s w
  joined_coerces n c (Err e) r s (inr p) k w m = refused_here e (inr (refuses_front IsCoercible columns ps qs e p)) s w
  joined_coerces n c (Ok a) (Err e) s h (inl o) w m = refused_here (behind n e) (inl (ap (behind n) o)) s w
  joined_coerces n c (Ok a) (Err e) s h (inr p) w m = refused_here (behind n e) (inr (refuses_behind IsCoercible columns ps qs n e c h.1 p)) s w
  joined_coerces n c (Ok a) (Ok b) s h k w m = made_here a b s h k w m

-- how many tests stand in a filter
counted : (a f : Filter) → a ≡ f → capped (length (tests (formula a))) ≡ capped (length (literal_tests f))
counted a f d = ap (λ x. capped (length (tests (formula x)))) d ∙ ap capped (count_is f)

module _ (columns : List TypeTree) (F : Filter) (f g : Box Filter Global) (a a' b : Filter) (l r m s : Result Filter FilterError) where
  -- what a part is, of the filter that the code borrows
  part_at : (x y : Filter) (q : Result Filter FilterError) → x ≡ y → Coerces columns (formula x) (literal_tests x) (literals_of x) q → Coerces columns (formula y) (literal_tests y) (literals_of y) q
  part_at x y q d h = subst (λ z. Coerces columns (formula z) (literal_tests z) (literals_of z) q) d h

  whole_at : (p : Formula) (ts : List (Test Scalar)) (vs : List Scalar) (x : Filter) → F ≡ x → formula x ≡ p → literal_tests x ≡ ts → literals_of x ≡ vs → Coerces columns p ts vs s → Coerces columns (formula F) (literal_tests F) (literals_of F) s
  whole_at p ts vs x q e t v h =
      subst (λ z. Coerces columns (formula z) (literal_tests z) (literals_of z) s) (sym q)
      (subst (λ p. Coerces columns p (literal_tests x) (literals_of x) s) (sym e)
      (subst (λ ts. Coerces columns p ts (literals_of x) s) (sym t)
      (subst (λ vs. Coerces columns p ts vs s) (sym v) h)))

  -- both, as the code borrows its parts
  pub both_at : F ≡ And f g → a ≡ f.value → a' ≡ f.value → b ≡ g.value → Coerces columns (formula a) (literal_tests a) (literals_of a) l → Coerces columns (formula b) (literal_tests b) (literals_of b) r
      → m ≡ answer_behind (capped (length (tests (formula a')))) r → OfParts (λ x y. Makes (both (formula x) (formula y)) s) (λ e. s ≡ Err e) l m → Joins l m s
      → Coerces columns (formula F) (literal_tests F) (literals_of F) s
  both_at q da da' db h k e w j =
      whole_at (both (formula f.value) (formula g.value)) (literal_tests f.value ++ literal_tests g.value) (literals_of f.value ++ literals_of g.value) (And f g) q (formula-And f g) (tests-And f g) (literals-And f g)
      (joined_coerces columns both (formula f.value) (formula g.value) (literal_tests f.value) (literal_tests g.value) (literals_of f.value) (literals_of g.value) refl
      (capped (length (tests (formula a')))) (counted a' f.value da') l r s (part_at a f.value l da h) (part_at b g.value r db k)
      (subst (OfParts (λ x y. Makes (both (formula x) (formula y)) s) (λ d. s ≡ Err d) l) e w) (subst (λ q. Joins l q s) e j))

  pub either_at : F ≡ Or f g → a ≡ f.value → a' ≡ f.value → b ≡ g.value → Coerces columns (formula a) (literal_tests a) (literals_of a) l → Coerces columns (formula b) (literal_tests b) (literals_of b) r
      → m ≡ answer_behind (capped (length (tests (formula a')))) r → OfParts (λ x y. Makes (either (formula x) (formula y)) s) (λ e. s ≡ Err e) l m → Joins l m s
      → Coerces columns (formula F) (literal_tests F) (literals_of F) s
  either_at q da da' db h k e w j =
      whole_at (either (formula f.value) (formula g.value)) (literal_tests f.value ++ literal_tests g.value) (literals_of f.value ++ literals_of g.value) (Or f g) q (formula-Or f g) (tests-Or f g) (literals-Or f g)
      (joined_coerces columns either (formula f.value) (formula g.value) (literal_tests f.value) (literal_tests g.value) (literals_of f.value) (literals_of g.value) refl
      (capped (length (tests (formula a')))) (counted a' f.value da') l r s (part_at a f.value l da h) (part_at b g.value r db k)
      (subst (OfParts (λ x y. Makes (either (formula x) (formula y)) s) (λ d. s ≡ Err d) l) e w) (subst (λ q. Joins l q s) e j))

pub negation_coerces : (columns : List TypeTree) (f : Formula) (ts : List (Test Scalar)) (ls : List Scalar) (l s : Result Filter FilterError) → Coerces columns f ts ls l → MatchResult l (λ a. Makes (negation (formula a)) s) (λ e. s ≡ Err e)
    → MatchResult l (λ a. IfOk s (λ x. literals_of x ≡ literals_of a)) (λ e. s ≡ Err e) → Coerces columns (negation f) ts ls s
negation_coerces columns f ts ls (Err e) s h w m = subst (Coerces columns (negation f) ts ls) (sym w) h
negation_coerces columns f ts ls (Ok a) (Ok x) h w m = (w ∙ ap negation h.0, h.1, λ v. valid_same (literals_of x) (literals_of a) m (h.2 v))
negation_coerces columns f ts ls (Ok a) (Err e) h w m = inl w

pub constant_coerces : (columns : List TypeTree) (t : Truth) → Coerces columns (constant t) [] [] (Ok (Constant t))
constant_coerces columns t = (formula-Constant t, tt, λ v. constant_valid t)

pub ruleset shown = (negation_coerces, constant_coerces, formula-Constant, formula-Compare, formula-IsNull, formula-In, formula-Between, formula-StartsWith, formula-Like, formula-And, formula-Or, formula-Not, literals-Constant, literals-Compare, literals-IsNull, literals-In, literals-Between, literals-StartsWith, literals-Like, literals-And, literals-Or, literals-Not, tests-Constant, tests-Compare, tests-IsNull, tests-In, tests-Between, tests-StartsWith, tests-Like, tests-And, tests-Or, tests-Not)

-- ---- a test and its column

module _ (columns : List TypeTree) (f : Formula) (k : ℕ) (d : Demand Scalar) (g : TypeTree → Formula) (vs : List Scalar) (made : coerced columns f ≡ by_column (slice_get columns k) f g) where
  test_coerces : (t : TypeTree) (r : Result Filter FilterError) → slice_get columns k ≡ Some t → IsOrderedFor d t → CoercesTest t d (g t) vs k r → Coerces columns f (asks k d) vs r
  test_coerces t (Ok x) e o h = (h.0 ∙ sym (made ∙ ap (λ c. by_column c f g) e), fit_one IsCoercible columns k d t e o h.1, h.2)
  test_coerces t (Err x) e o (inl m) = inl m
  test_coerces t (Err x) e o (inr p) =
      inr (subst (RefusesFirst IsCoercible columns (asks k d)) (sym p.0)
      (refuses_one IsCoercible columns k d (TypesDiffer 0 k) (refl, refl, subst (λ c. IsSomeAnd c (λ t. IsOrderedFor d t × ¬ (Suits IsCoercible d t))) (sym e) (o, p.1))))

  test_refused : (e : FilterError) → ((t : TypeTree) → IsOrderedFor d t → HasNoVariant t)
      → ((e ≡ NoColumn 0 k) × (slice_get columns k ≡ None)) ⊎ ((t : TypeTree) × (e ≡ HasVariant 0 k) × (slice_get columns k ≡ Some t) × ¬ (HasNoVariant t)) → Coerces columns f (asks k d) vs (Err e)
  test_refused e o (inl p) = inr (subst (RefusesFirst IsCoercible columns (asks k d)) (sym p.0) (refuses_one IsCoercible columns k d (NoColumn 0 k) (refl, refl, p.1)))
  test_refused e o (inr p) =
      inr (subst (RefusesFirst IsCoercible columns (asks k d)) (sym p.1)
      (refuses_one IsCoercible columns k d (HasVariant 0 k) (refl, refl, subst (λ c. IsSomeAnd c (λ t. ¬ (IsOrderedFor d t))) (sym p.2) (λ h. p.3 (o p.0 h)))))

-- what is the same in each column
in_any_column : (f : Formula) (o : Option TypeTree) → f ≡ by_column o f (λ t. f)
in_any_column f None = refl
in_any_column f (Some t) = refl

module _ (columns : List TypeTree) (k : ℕ) (t : TypeTree) (r : Result Filter FilterError) where
  pub comparison_column : (op : CompareOperator) (x : Scalar) → (slice_get columns k ≡ Some t) × HasNoVariant t → CoercesTest t (comparing (x ∷ [])) (comparison_of k op (position_in t (cell_of x))) (x ∷ []) k r
      → Coerces columns (comparison k op (cell_of x)) (asks k (comparing (x ∷ []))) (x ∷ []) r
  comparison_column op x e h = test_coerces columns (comparison k op (cell_of x)) k (comparing (x ∷ [])) (λ t. comparison_of k op (position_in t (cell_of x))) (x ∷ []) refl t r e.0 e.1 h

  pub membership_column : (xs : List Scalar) → (slice_get columns k ≡ Some t) × HasNoVariant t → CoercesTest t (comparing xs) (member_among k (map (position_in t) (map cell_of xs))) xs k r
      → Coerces columns (membership k (map cell_of xs)) (asks k (comparing xs)) xs r
  membership_column xs e h = test_coerces columns (membership k (map cell_of xs)) k (comparing xs) (λ t. member_among k (map (position_in t) (map cell_of xs))) xs refl t r e.0 e.1 h

  pub range_column : (x y : Scalar) → (slice_get columns k ≡ Some t) × HasNoVariant t → CoercesTest t (comparing (x ∷ y ∷ [])) (range_of k (position_in t (cell_of x)) (position_in t (cell_of y))) (x ∷ y ∷ []) k r
      → Coerces columns (range k (cell_of x) (cell_of y)) (asks k (comparing (x ∷ y ∷ []))) (x ∷ y ∷ []) r
  range_column x y e h = test_coerces columns (range k (cell_of x) (cell_of y)) k (comparing (x ∷ y ∷ [])) (λ t. range_of k (position_in t (cell_of x)) (position_in t (cell_of y))) (x ∷ y ∷ []) refl t r e.0 e.1 h

  pub prefix_column : (p : Scalar) → (slice_get columns k ≡ Some t) × HasNoVariant t → CoercesTest t (beginning p) (prefix_test k (coerced_cell t (cell_of p))) (p ∷ []) k r
      → Coerces columns (prefix_test k (cell_of p)) (asks k (beginning p)) (p ∷ []) r
  prefix_column p e h = test_coerces columns (prefix_test k (cell_of p)) k (beginning p) (λ t. prefix_test k (coerced_cell t (cell_of p))) (p ∷ []) refl t r e.0 e.1 h

  pub pattern_column : (case : Case) (parts : List Part) → (slice_get columns k ≡ Some t) × HasNoVariant t → CoercesTest t matching (pattern_test k case parts) [] k r → Coerces columns (pattern_test k case parts) (asks k matching) [] r
  pattern_column case parts e h = test_coerces columns (pattern_test k case parts) k matching (λ t. pattern_test k case parts) [] (in_any_column (pattern_test k case parts) (slice_get columns k)) t r e.0 e.1 h

-- the column is not there, or a variant stands in its type
abbrev pub NoOrdered : List TypeTree → ℕ → FilterError → Type 0
NoOrdered columns k e = ((e ≡ NoColumn 0 k) × (slice_get columns k ≡ None)) ⊎ ((t : TypeTree) × (e ≡ HasVariant 0 k) × (slice_get columns k ≡ Some t) × ¬ (HasNoVariant t))

module _ (columns : List TypeTree) (k : ℕ) (e : FilterError) where
  pub comparison_refused : (op : CompareOperator) (x : Scalar) → NoOrdered columns k e → Coerces columns (comparison k op (cell_of x)) (asks k (comparing (x ∷ []))) (x ∷ []) (Err e)
  comparison_refused op x h = test_refused columns (comparison k op (cell_of x)) k (comparing (x ∷ [])) (λ t. comparison_of k op (position_in t (cell_of x))) (x ∷ []) refl e (λ t o. o) h

  pub membership_refused : (xs : List Scalar) → NoOrdered columns k e → Coerces columns (membership k (map cell_of xs)) (asks k (comparing xs)) xs (Err e)
  membership_refused xs h = test_refused columns (membership k (map cell_of xs)) k (comparing xs) (λ t. member_among k (map (position_in t) (map cell_of xs))) xs refl e (λ t o. o) h

  pub range_refused : (x y : Scalar) → NoOrdered columns k e → Coerces columns (range k (cell_of x) (cell_of y)) (asks k (comparing (x ∷ y ∷ []))) (x ∷ y ∷ []) (Err e)
  range_refused x y h = test_refused columns (range k (cell_of x) (cell_of y)) k (comparing (x ∷ y ∷ [])) (λ t. range_of k (position_in t (cell_of x)) (position_in t (cell_of y))) (x ∷ y ∷ []) refl e (λ t o. o) h

  pub prefix_refused : (p : Scalar) → NoOrdered columns k e → Coerces columns (prefix_test k (cell_of p)) (asks k (beginning p)) (p ∷ []) (Err e)
  prefix_refused p h = test_refused columns (prefix_test k (cell_of p)) k (beginning p) (λ t. prefix_test k (coerced_cell t (cell_of p))) (p ∷ []) refl e (λ t o. o) h

  pub pattern_refused : (case : Case) (parts : List Part) → NoOrdered columns k e → Coerces columns (pattern_test k case parts) (asks k matching) [] (Err e)
  pattern_refused case parts h = test_refused columns (pattern_test k case parts) k matching (λ t. pattern_test k case parts) [] (in_any_column (pattern_test k case parts) (slice_get columns k)) e (λ t o. o) h

pub null_there : (columns : List TypeTree) (k : ℕ) (t : TypeTree) → Some t ≡ slice_get columns k → Coerces columns (null_test k) (asks k nothing) [] (Ok (IsNull k))
null_there columns k t e = (formula-IsNull k, fit_one IsCoercible columns k nothing t (sym e) tt tt, λ v. valid_same (literals_of (IsNull k)) [] (literals-IsNull k) tt)

pub null_absent : (columns : List TypeTree) (k : ℕ) → None ≡ slice_get columns k → Coerces columns (null_test k) (asks k nothing) [] (Err (NoColumn 0 k))
null_absent columns k e = inr (refuses_one IsCoercible columns k nothing (NoColumn 0 k) (refl, refl, sym e))

pub ruleset columns = (comparison_column, membership_column, range_column, prefix_column, pattern_column, comparison_refused, membership_refused, range_refused, prefix_refused, pattern_refused, null_there, null_absent, formula-IsNull)

-- ---- the type of a column

pub absent_given : (columns : List TypeTree) (k : ℕ) → None ≡ slice_get columns k → GivesOrdered columns k (Err (NoColumn 0 k))
absent_given columns k e = inl (refl, sym e)

pub variant_given : (columns : List TypeTree) (k : ℕ) (t : TypeTree) → Some t ≡ slice_get columns k → has_variant t ≡ true → GivesOrdered columns k (Err (HasVariant 0 k))
variant_given columns k t e v = inr (t, refl, sym e, λ n. false≢true (sym (test-from_none t n) ∙ v))

pub ordered_given : (columns : List TypeTree) (k : ℕ) (d : Bor DType) → Some (type_of d.now) ≡ slice_get columns k → has_variant (type_of d.now) ≡ false → GivesOrdered columns k (Ok d)
ordered_given columns k d e v = (sym e, none-from_test (type_of d.now) v)

pub ruleset variants = (absent_given, variant_given, ordered_given)

-- ---- the integer type of a column

pub ruleset levels = (type_of-List, type_of-FixedSizeList, type_of-Map, type_of-Struct, type_of-Union, type_of-Extension)

-- ---- where a literal stands

abbrev cell_from : TypeTree → Content → Cell
cell_from t c = record { typed = t; content = c }

-- what lacks nothing, or is lacking in this order
lacked_by : (b : Bool) (s o : Ordering) → cond b (Some s) None ≡ Some o → (b ≡ true) × (s ≡ o)
lacked_by true s o e = let same : s ≡ o = cc in (refl, same)
lacked_by false s o e = absurd cc

had_by : (b : Bool) (s : Ordering) → None ≡ cond b (Some s) None → b ≡ false
had_by true s e = absurd cc
had_by false s e = refl

module _ (t : TypeTree) (k : ℕ) (l : Scalar) where
  abbrev is_lacked : Bool
  is_lacked = lacks_number t (scalar_type l) (scalar_content l)

  -- of another type, the literal is lacked if its number is
  lacks_other : same_type t (scalar_type l) ≡ false → lacks t (cell_of l) ≡ is_lacked
  lacks_other e = ap (λ b. cond b false is_lacked) e

  stands_by : (b : Bool) → lacks t (cell_of l) ≡ b → position_in t (cell_of l) ≡ cond b (lacking (side (scalar_content l))) (exactly (coerced_cell t (cell_of l)))
  stands_by b e = ap (λ c. cond c (lacking (side (scalar_content l))) (exactly (coerced_cell t (cell_of l)))) e

  pub copied_stands : (y : Scalar) → same_type t (scalar_type l) ≡ true → cell_of y ≡ cell_of l → exactly_of y ≡ exactly_of l → CoercesLiteral t l k (Ok (Exactly y))
  copied_stands y e h m =
      let same = (same_type-Decides t (scalar_type l)).0 e in
      (ap exactly h ∙ sym (fitting_position t (cell_of l) same), inl same, λ v. (copy_valid l y m v, tt))

  pub lacking_stands : (o : Ordering) → IsValid l → same_type t (scalar_type l) ≡ false → Some o ≡ lacking_order t (scalar_type l) (scalar_content l) → CoercesLiteral t l k (Ok (Lacking o))
  lacking_stands o v e q =
      let lacked = lacked_by is_lacked (side (scalar_content l)) o (sym q) in
      let has_none = lacks_other e ∙ lacked.0 in
      (ap lacking (sym lacked.1) ∙ sym (stands_by true has_none), inr (v, inl has_none), λ w. tt)

  -- what is not lacked, the type has
  pub has_literal : same_type t (scalar_type l) ≡ false → None ≡ lacking_order t (scalar_type l) (scalar_content l) → lacks t (cell_of l) ≡ false
  has_literal e q = lacks_other e ∙ had_by is_lacked (side (scalar_content l)) q

  never_other : same_type t (scalar_type l) ≡ false → (IsValid l → ¬ ((lacks t (cell_of l) ≡ true) ⊎ KeepsValue t l)) → ¬ (IsCoercible t l)
  never_other e n (inl s) = false≢true (sym e ∙ (same_type-Decides t (scalar_type l)).1 s)
  never_other e n (inr c) = n c.0 c.1

  pub invalid_stands : (b : Bool) → same_type t (scalar_type l) ≡ false → IsTrue b ↔ IsValid l → b ≡ false → CoercesLiteral t l k (Err (TypesDiffer 0 k))
  invalid_stands b s h e = inr (refl, never_other s (λ v c. false≢true (sym e ∙ h.1 v)))

  abbrev Keeps : Type 0
  Keeps = reinterprets (scalar_type l) t (scalar_content l) ≡ false

  pub cast_made : (u : TypeTree) (y : Scalar) → IsValid l → u ≡ as_nullable t → same_type t (scalar_type l) ≡ false → lacks t (cell_of l) ≡ false → Keeps → AnswersCast (scalar_type l) u (scalar_raw l) (Ok y) → CoercesLiteral t l k (Ok (Exactly y))
  cast_made u y v q e m kept a = (
    ap exactly (ap₂ cell_from (a.one.typed ∙ q) a.one.same ∙ sym (ap (λ b. cond b (cell_of l) (cell_from (as_nullable t) (scalar_content l))) e)) ∙ sym (stands_by false m),
    inr (v, inr (kept, subst (λ s. CanCast (scalar_type l) s (scalar_content l)) q a.succeeds_only)),
    λ v. (a.one.valid, tt),
  )

  not_possible : (u : TypeTree) (p : Type 0) (e : VortexError) → e ≢ why.OutOfMemory → RefusesCast u p e → ¬ p
  not_possible u p why.CannotCast n h = h
  not_possible u p why.OutOfMemory n h = absurd (n refl)
  not_possible u p _ n h = absurd h

  no_cast : lacks t (cell_of l) ≡ false → ¬ (KeepsValue t l) → ¬ ((lacks t (cell_of l) ≡ true) ⊎ KeepsValue t l)
  no_cast h n (inl m) = false≢true (sym h ∙ m)
  no_cast h n (inr c) = n c

  -- a cast that takes a storage for a value is none
  pub cast_reinterprets : (b : Bool) → same_type t (scalar_type l) ≡ false → lacks t (cell_of l) ≡ false → b ≡ reinterprets (scalar_type l) t (scalar_content l) → b ≡ true → CoercesLiteral t l k (Err (TypesDiffer 0 k))
  cast_reinterprets b s h e i = inr (refl, never_other s (λ v. no_cast h (λ c. false≢true (sym c.0 ∙ sym e ∙ i))))

  pub cast_refused : (u : TypeTree) (e : VortexError) (d : FilterError) → u ≡ as_nullable t → same_type t (scalar_type l) ≡ false → lacks t (cell_of l) ≡ false → AnswersCast (scalar_type l) u (scalar_raw l) (Err e)
      → ((e ≡ why.OutOfMemory) × (d ≡ OutOfMemory)) ⊎ ((e ≢ why.OutOfMemory) × (d ≡ TypesDiffer 0 k)) → CoercesLiteral t l k (Err d)
  cast_refused u e d q s h a (inl m) = inl m.1
  cast_refused u e d q s h a (inr m) =
      inr (m.1, never_other s (λ v. no_cast h (λ c. subst (λ w. ¬ (CanCast (scalar_type l) w (scalar_content l))) q (not_possible u (CanCast (scalar_type l) u (scalar_content l)) e m.0 a.refuses_only) c.1)))

pub ruleset casts = (cast_made, cast_refused, cast_reinterprets)

pub ruleset positions = (lacking_stands, has_literal)

-- ---- tests

-- a filter with this formula and these literals, or out of memory where some is asked for
abbrev IsMade : Formula → List Scalar → Type 0 → Result Filter FilterError → Type 0
IsMade f ls asks r = IfOk r (λ g. formula g ≡ f) × IfOk r (λ g. literals_of g ≡ ls) × IfErr r (λ e. (e ≡ OutOfMemory) × asks)

module _ (t : TypeTree) (k : ℕ) where
  pub comparison_stands : (op : CompareOperator) (x : Scalar) (p : Position) (r : Result Filter FilterError) → StandsAt t x p → IsMade (comparison_of k op (position_tree p)) (compared_scalars op p) (compared_scalars op p ≡ []) r
      → CoercesTest t (comparing (x ∷ [])) (comparison_of k op (position_in t (cell_of x))) (x ∷ []) k r
  comparison_stands op x p (Ok g) h m = (m.0 ∙ ap (comparison_of k op) h.0, (h.1, tt), λ v. valid_same (literals_of g) (compared_scalars op p) m.1 (valid_compared op p (h.2 v.0)))
  comparison_stands op x p (Err e) h m = inl m.2.0

  pub comparison_stops : (op : CompareOperator) (x : Scalar) (e : FilterError) → RefusesLiterals k (IsCoercible t x) e → CoercesTest t (comparing (x ∷ [])) (comparison_of k op (position_in t (cell_of x))) (x ∷ []) k (Err e)
  comparison_stops op x e (inl o) = inl o
  comparison_stops op x e (inr p) = inr (p.0, λ s. p.1 s.0)

  module _ (x y : Scalar) where
    pub range_stands : (p q : Position) (r : Result Filter FilterError) → StandsAt t x p → StandsAt t y q → IsMade (range_of k (position_tree p) (position_tree q)) (compared_scalars Gte p ++ compared_scalars Lte q) ((scalars_at p ≡ []) ⊎ (scalars_at q ≡ [])) r
        → CoercesTest t (comparing (x ∷ y ∷ [])) (range_of k (position_in t (cell_of x)) (position_in t (cell_of y))) (x ∷ y ∷ []) k r
    range_stands p q (Ok g) h i m = (m.0 ∙ ap₂ (range_of k) h.0 i.0, (h.1, (i.1, tt)), λ v. valid_with (literals_of g) (compared_scalars Gte p) (compared_scalars Lte q) m.1 (valid_compared Gte p (h.2 v.0)) (valid_compared Lte q (i.2 v.1.0)))
    range_stands p q (Err e) h i m = inl m.2.0

    pub lower_stops : (e : FilterError) → RefusesLiterals k (IsCoercible t x) e → CoercesTest t (comparing (x ∷ y ∷ [])) (range_of k (position_in t (cell_of x)) (position_in t (cell_of y))) (x ∷ y ∷ []) k (Err e)
    lower_stops e (inl o) = inl o
    lower_stops e (inr p) = inr (p.0, λ s. p.1 s.0)

    pub upper_stops : (e : FilterError) → RefusesLiterals k (IsCoercible t y) e → CoercesTest t (comparing (x ∷ y ∷ [])) (range_of k (position_in t (cell_of x)) (position_in t (cell_of y))) (x ∷ y ∷ []) k (Err e)
    upper_stops e (inl o) = inl o
    upper_stops e (inr p) = inr (p.0, λ s. p.1 s.1.0)

  -- of no literals
  pub none_asked : (xs : List Scalar) (vs : Vec Scalar Global) → (length xs == 0) ≡ true → vs.items ≡ [] → CoercesTest t (comparing xs) (member_among k (map (position_in t) (map cell_of xs))) xs k (Ok (In k vs))
  none_asked [] vs e n = (formula-In k vs ∙ ap (λ ys. membership k (map cell_of ys)) n, tt, λ v. valid_same (literals_of (In k vs)) [] (literals-In k vs ∙ n) tt)
  none_asked (x ∷ xs) vs e n = absurd (false≢true (sym (not_empty (length xs)) ∙ e))
    where
      not_empty : (n : ℕ) → (suc n == 0) ≡ false
      not_empty n = grind (arith, nat_tests)

  pub some_asked : (xs ks : List Scalar) (r : Result Filter FilterError) → (length xs == 0) ≡ false → (map cell_of ks ≡ cells_of (map (position_in t) (map cell_of xs))) × AllByRecursion (IsCoercible t) xs × (AreValid xs → AreValid ks)
      → IsMade (member_of k (map cell_of ks)) ks (ks ≡ []) r → CoercesTest t (comparing xs) (member_among k (map (position_in t) (map cell_of xs))) xs k r
  some_asked [] ks r e h m = absurd cc
  some_asked (x ∷ xs) ks (Ok g) e h m = (m.0 ∙ ap (member_of k) h.0, h.1, λ v. valid_same (literals_of g) ks m.1 (h.2 v))
  some_asked (x ∷ xs) ks (Err d) e h m = inl m.2.0

-- ---- prefixes

never_lacked : (b : Bool) → cond b false false ≡ false
never_lacked true = refl
never_lacked false = refl

no_string : (t : TypeTree) (p : Cell) → holds_strings t ≡ true → lacks t p ≡ false
no_string (utf8_type n) p e = never_lacked (same_type (utf8_type n) p.typed)
no_string (binary_type n) p e = never_lacked (same_type (binary_type n) p.typed)
no_string _ p e = absurd (false≢true e)

module _ (t : TypeTree) (k : ℕ) (p : Scalar) where
  pub no_strings : (f : Formula) → holds_strings t ≡ false → CoercesTest t (beginning p) f (p ∷ []) k (Err (TypesDiffer 0 k))
  no_strings f e = inr (refl, λ s. (strings_test t).1 e s.0)

  -- a string stands at its cast
  prefix_made : (q : Position) (o : Option Formula) → holds_strings t ≡ true → StandsAt t p q → o ≡ prefix_of k (position_tree q) → o ≡ Some (prefix_test k (coerced_cell t (cell_of p)))
  prefix_made q o e h made = made ∙ ap (prefix_of k) (h.0 ∙ stands_by t k p false (no_string t (cell_of p) e))

  pub prefix_stands : (q : Position) (g : Filter) → holds_strings t ≡ true → StandsAt t p q → Some (formula g) ≡ prefix_of k (position_tree q) → literals_of g ≡ scalars_of q
      → CoercesTest t (beginning p) (prefix_test k (coerced_cell t (cell_of p))) (p ∷ []) k (Ok g)
  prefix_stands q g e h made n =
      let is : Some (formula g) ≡ Some (prefix_test k (coerced_cell t (cell_of p))) = prefix_made q (Some (formula g)) e h made in
      let same : formula g ≡ prefix_test k (coerced_cell t (cell_of p)) = cc in
      (same, ((strings_test t).0 e, h.1), λ w. valid_same (literals_of g) (scalars_of q) n (h.2 w.0))

  pub prefix_never : (q : Position) → holds_strings t ≡ true → StandsAt t p q → None ≡ prefix_of k (position_tree q) → ⊥
  prefix_never q e h made = let is : None ≡ Some (prefix_test k (coerced_cell t (cell_of p))) = prefix_made q None e h made in absurd cc

  pub prefix_stops : (e : FilterError) → RefusesLiterals k (IsCoercible t p) e → CoercesTest t (beginning p) (prefix_test k (coerced_cell t (cell_of p))) (p ∷ []) k (Err e)
  prefix_stops e (inl o) = inl o
  prefix_stops e (inr q) = inr (q.0, λ s. q.1 s.1)

pub ruleset prefixes = (no_strings)

-- ---- patterns

module _ (t : TypeTree) (k : ℕ) (f : Formula) where
  pub pattern_stands : (r : Result Filter FilterError) → is_utf8_type t ≡ true → Makes f r → MakesCopies [] r → CoercesTest t matching f [] k r
  pattern_stands (Ok g) e made copies = (made, (text_test t).0 e, λ v. copies_valid [] (Ok g) copies tt)
  pattern_stands (Err d) e made copies = inl made

  pub no_text : is_utf8_type t ≡ false → CoercesTest t matching f [] k (Err (TypesDiffer 0 k))
  no_text e = inr (refl, (text_test t).1 e)

-- ---- several literals

pub holds_at : (P : Scalar → Type 0) (xs : List Scalar) (i : ℕ) (d : Scalar) → i < length xs → AllByRecursion P xs → P (get_or xs i d)
holds_at P [] i d h a = absurd (omega arith)
holds_at P (x ∷ xs) zero d h a = a.0
holds_at P (x ∷ xs) (suc i) d h a = holds_at P xs i d (omega arith) a.1

pub item_refused : (t : TypeTree) (k : ℕ) (xs : List Scalar) (i : ℕ) (x : Scalar) (e : FilterError) → i < length xs → x ≡ get_or xs i x → RefusesLiterals k (IsCoercible t x) e → RefusesLiterals k (AllByRecursion (IsCoercible t) xs) e
item_refused t k xs i x e h q (inl o) = inl o
item_refused t k xs i x e h q (inr p) = inr (p.0, λ s. p.1 (subst (IsCoercible t) (sym q) (holds_at (IsCoercible t) xs i x h s)))

pub passed_literals : (t : TypeTree) (k : ℕ) (xs : List Scalar) (r : Result (Vec Scalar Global) FilterError) (e : FilterError) → IsErrAnd r (λ d. d ≡ e) → RefusesLiterals k (AllByRecursion (IsCoercible t) xs) e
    → CoercesLiterals t xs k r
passed_literals t k xs r e h w =
    let p = err_from_is_err_and r h in
    subst (CoercesLiterals t xs k) (sym p.1) (subst (RefusesLiterals k (AllByRecursion (IsCoercible t) xs)) (sym p.2) w)

one_more : (xs : List Scalar) (i : ℕ) (x : Scalar) → i < length xs → x ≡ get_or xs i x → take (i + 1) xs ≡ take i xs ++ x ∷ []
one_more xs i x h e = take_more xs i x h ∙ ap (λ y. take i xs ++ (y ∷ [])) (sym e)

-- the literals so far that the type does not lack
pub record IsKept (t : TypeTree) (ks : List Cell) (xs : List Scalar) : Type 0 where
  pub cells : ks ≡ cells_of (map (position_in t) (map cell_of xs))
  pub coercible : AllByRecursion (IsCoercible t) xs

cells_append : (ps qs : List PositionTree) → cells_of (ps ++ qs) ≡ cells_of ps ++ cells_of qs
cells_append [] qs = refl
cells_append (exactly x ∷ ps) qs = ap (λ ks. x ∷ ks) (cells_append ps qs)
cells_append (just_above x ∷ ps) qs = cells_append ps qs
cells_append (lacking o ∷ ps) qs = cells_append ps qs

coercible_more : (t : TypeTree) (xs : List Scalar) (x : Scalar) → AllByRecursion (IsCoercible t) xs → IsCoercible t x → AllByRecursion (IsCoercible t) (xs ++ x ∷ [])
coercible_more t [] x a h = (h, tt)
coercible_more t (y ∷ xs) x a h = (a.0, coercible_more t xs x a.1 h)

pub kept_step : (t : TypeTree) (xs : List Scalar) (i : ℕ) (x : Scalar) (p : Position) (before after : List Cell) → i < length xs → x ≡ get_or xs i x → IsKept t before (take i xs) → StandsAt t x p
    → after ≡ before ++ cells_of (position_tree p ∷ []) → IsKept t after (take (i + 1) xs)
kept_step t xs i x p before after h q a s made =
    subst (IsKept t after) (sym (one_more xs i x h q)) (record {
      cells = made ∙ ap₂ (λ ks u. ks ++ cells_of (u ∷ [])) a.cells s.0 ∙ sym (cells_append (map (position_in t) (map cell_of (take i xs))) (position_in t (cell_of x) ∷ []))
          ∙ ap cells_of (sym (map-append (position_in t) (map cell_of (take i xs)) (cell_of x ∷ []))) ∙ ap (λ ys. cells_of (map (position_in t) ys)) (sym (map-append cell_of (take i xs) (x ∷ [])));
      coercible = coercible_more t (take i xs) x a.coercible s.1;
    })

pub kept_whole : (t : TypeTree) (xs : List Scalar) (i : ℕ) (ks : List Cell) → length xs ≤ i → IsKept t ks (take i xs) → (ks ≡ cells_of (map (position_in t) (map cell_of xs))) × AllByRecursion (IsCoercible t) xs
kept_whole t xs i ks h a =
    let p : IsKept t ks xs = subst (λ ys. IsKept t ks ys) (take_all i xs h) a in (p.cells, p.coercible)

-- ---- numbers

lacking_content : (k l : PType) (m n : Nullability) (c : Content) → lacking_of (Some k) (Some l) (number_in c) ≡ lacking_order (integer_type k m) (integer_type l n) c
lacking_content k l m n (whole z) = by_range (in_range k z)
  where
    by_range : (b : Bool) → cond b None (Some (side (whole z))) ≡ cond (not b) (Some (side (whole z))) None
    by_range true = refl
    by_range false = refl
lacking_content k l m n _ = refl

lacking_literal : (k : PType) (m : Nullability) (u : TypeTree) (c : Content) → lacking_of (Some k) (integer_in u) (number_in c) ≡ lacking_order (integer_type k m) u c
lacking_literal k m (integer_type l n) c = lacking_content k l m n c
lacking_literal k m _ c = refl

lacking_column : (t u : TypeTree) (c : Content) → lacking_of (integer_in t) (integer_in u) (number_in c) ≡ lacking_order t u c
lacking_column (integer_type k m) u c = lacking_literal k m u c
lacking_column _ u c = refl

pub lacking_is : (t u : TypeTree) (c : Content) (o p : Option PType) (z : Option ℤ) (r : Option Ordering) → o ≡ integer_in t → p ≡ integer_in u → z ≡ number_in c → r ≡ lacking_of o p z → r ≡ lacking_order t u c
lacking_is t u c o p z r h k m e = e ∙ ap (λ o. lacking_of o p z) h ∙ ap (λ p. lacking_of (integer_in t) p z) k ∙ ap (lacking_of (integer_in t) (integer_in u)) m ∙ lacking_column t u c

pub number_there : (k : PType) (z : ℤ) (v : PValue) → IsNumber k z v → None ≡ number_lacking k z
number_there k z v n = sym (ap (λ b. cond b None (Some (int_cmp (pos 0) z))) (in_range_true k z n.2))

pub number_absent : (k : PType) (z : ℤ) → ¬ (InRange k z) → Some (int_cmp (pos 0) z) ≡ number_lacking k z
number_absent k z n = sym (ap (λ b. cond b None (Some (int_cmp (pos 0) z))) (in_range_false k z n))

pub ruleset ranges_of = (number_there, number_absent)

-- ---- the whole filter

-- a filter that fits is refused only for want of memory
fitting_refused : (columns : List TypeTree) (F : Filter) (e : FilterError) → FitsColumns columns (formula F) → (e ≡ OutOfMemory) ⊎ RefusesFirst IsCoercible columns (literal_tests F) e → e ≡ OutOfMemory
fitting_refused columns F e h (inl o) = o
fitting_refused columns F e h (inr p) = absurd (not_both IsCoercible columns (literal_tests F) e (fitting_coercible columns F h) p)

module _ (columns : List TypeTree) (F : Filter) where
  abbrev pub IsCoerced : Result Filter FilterError → Type 0
  IsCoerced r = Coerces columns (formula F) (literal_tests F) (literals_of F) r

  pub value_coerced : (r : Result Filter FilterError) → IsCoerced r → IfOk r (λ g. formula g ≡ coerced columns (formula F))
  value_coerced (Ok g) h = h.0
  value_coerced (Err e) h = tt

  pub fits_coerced : NullableIsSame → (r : Result Filter FilterError) → IsCoerced r → IfOk r (λ g. FitsColumns columns (formula g))
  fits_coerced n (Ok g) h = subst (FitsColumns columns) (sym h.0) (coerced_fits n columns (formula F) (coercible_columns columns F h.1))
  fits_coerced n (Err e) h = tt

  pub same_coerced : NullableIsSame → (r : Result Filter FilterError) → IsCoerced r → IfOk r (λ g. (row : List Cell) → IsRowOf columns row → truth (formula g) row ≡ content_truth (formula F) row)
  same_coerced n (Ok g) h = λ row i. ap (λ p. truth p row) h.0 ∙ coerced_truth n columns (formula F) row i (coercible_columns columns F h.1)
  same_coerced n (Err e) h = tt

  pub unchanged_coerced : (r : Result Filter FilterError) → IsCoerced r → FitsColumns columns (formula F) → IfOk r (λ g. formula g ≡ formula F)
  unchanged_coerced (Ok g) h i = h.0 ∙ coerced_itself columns (formula F) i
  unchanged_coerced (Err e) h i = tt

  pub fitting_coerced : (r : Result Filter FilterError) → IsCoerced r → FitsColumns columns (formula F) → IfErr r (λ e. e ≡ OutOfMemory)
  fitting_coerced (Ok g) h i = tt
  fitting_coerced (Err e) h i = fitting_refused columns F e i h

  pub valid_coerced : (r : Result Filter FilterError) → IsCoerced r → AreValid (literals_of F) → IfOk r (λ g. AreValid (literals_of g))
  valid_coerced (Ok g) h v = h.2 v
  valid_coerced (Err e) h v = tt

  pub only_coerced : (r : Result Filter FilterError) → IsCoerced r → OnOk r (AllFit IsCoercible columns (literal_tests F))
  only_coerced (Ok g) h = h.1
  only_coerced (Err e) h = tt

  pub refused_coerced : (r : Result Filter FilterError) → IsCoerced r → IfErr r (λ e. (e ≡ OutOfMemory) ⊎ RefusesFirst IsCoercible columns (literal_tests F) e)
  refused_coerced (Ok g) h = tt
  refused_coerced (Err e) h = h
