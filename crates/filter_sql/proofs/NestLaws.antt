-- How deep the filter that tokens are nests: of the left one of two operands more may nest than of the right one.
use Rattle.std.proofs.Common.{◌≡◌, ℕ, suc, ◌+◌, ◌*◌, ◌≤◌, max, Bool, true, false, List, [], ◌∷◌, Option, Some, None, length, arith, length-append, subst}
use Rattle.std.specs.Prelude.{option_and_then, option_map}
use Rattle.like_patterns.specs.declared.case.Case.{Case}
use Rattle.like_patterns.specs.declared.case.Case.TheVariants.{Sensitive, Insensitive}
use Rattle.like_patterns.specs.Patterns.{Part}
use Rattle.vortex_dtype.specs.Parts.{is_utf8_type}
use Rattle.vortex_dtype.specs.TypeTree.{TypeTree}
use Rattle.vortex_cells.specs.Cells.{Cell}
use Rattle.vortex_filter.specs.declared.operator.CompareOperator.{CompareOperator}
use Rattle.vortex_filter.specs.declared.operator.CompareOperator.TheVariants.{Eq, NotEq, Gt, Gte, Lt, Lte}
use Rattle.vortex_filter.specs.CheckSteps.{holds_strings}
use Rattle.vortex_filter.specs.Formula.{Formula, both, either, negation, null_test, pattern_test, prefix_test}
use Rattle.vortex_filter.specs.Literals.{LiteralTree, position_of}
use Rattle.vortex_filter.specs.Operators.{holds}
use Rattle.vortex_filter.specs.Positions.{PositionTree, exactly, just_above, lacking, cells_of, comparison_above, comparison_of, for_values, member_among, member_of, prefix_of, range_of}
use Rattle.filter_sql.specs.declared.print.Level.{Level}
use Rattle.filter_sql.specs.declared.print.Level.TheVariants as levels
use Rattle.filter_sql.specs.declared.token.Keyword.TheVariants as keywords
use Rattle.filter_sql.specs.ColumnNames.{ColumnTree}
use Rattle.filter_sql.specs.Grammar.{IsCondition, IsFilter, IsPredicate, IsTest, and_filter, bare_test, between_literals, compares, group, in_literals, in_nothing, ilike_pattern, is_not_null, is_null, like_pattern, not_filter, not_test, on_column, one_conjunction, one_operand, or_filter, predicate, prefix_call, says_false, says_null, says_true}
use Rattle.filter_sql.specs.Literals.{Condition, begun, formula_in, like_in, like_test, missing, positions_of, prefix_asked, prefix_or}
use Rattle.filter_sql.specs.TextLaws.{TextsNestSo, height}
use Rattle.filter_sql.specs.Tokens.{TokenTree, closing, keyword_token}
use Rattle.filter_sql.proofs.ConditionSteps.{bind_some, guard_some, map_some}

-- ---- the height of a filter of the grammar

-- at most so much, and no more than there are tokens
pub record IsLow (most : ℕ) (ts : List TokenTree) (f : Formula) : Type 0 where
  pub high : height f ≤ most
  pub tokens : height f ≤ length ts

lacking-height : (k : ℕ) (b : Bool) → height (for_values b k) ≤ 2
lacking-height k true = omega arith
lacking-height k false = omega arith

above-height : (k : ℕ) (op : CompareOperator) (x : Cell) → height (comparison_above k op x) ≤ 2
above-height k Eq x = lacking-height k false
above-height k NotEq x = lacking-height k true
above-height k Gt x = omega arith
above-height k Gte x = omega arith
above-height k Lt x = omega arith
above-height k Lte x = omega arith

comparison-height : (k : ℕ) (op : CompareOperator) (p : PositionTree) → height (comparison_of k op p) ≤ 2
comparison-height k op (exactly x) = omega arith
comparison-height k op (just_above x) = above-height k op x
comparison-height k op (lacking o) = lacking-height k (holds op o)

halves-height : (k : ℕ) (lower upper : PositionTree) → height (both (comparison_of k Gte lower) (comparison_of k Lte upper)) ≤ 3
halves-height k lower upper =
    let low = comparison-height k Gte lower in
    let high = comparison-height k Lte upper in
    omega (arith, low, high)

range-height : (k : ℕ) (lower upper : PositionTree) → height (range_of k lower upper) ≤ 3
range-height k (exactly x) (exactly y) = omega arith
range-height k (exactly x) (just_above y) = halves-height k (exactly x) (just_above y)
range-height k (exactly x) (lacking o) = halves-height k (exactly x) (lacking o)
range-height k (just_above x) (exactly y) = halves-height k (just_above x) (exactly y)
range-height k (just_above x) (just_above y) = halves-height k (just_above x) (just_above y)
range-height k (just_above x) (lacking o) = halves-height k (just_above x) (lacking o)
range-height k (lacking o) (exactly y) = halves-height k (lacking o) (exactly y)
range-height k (lacking o) (just_above y) = halves-height k (lacking o) (just_above y)
range-height k (lacking o) (lacking r) = halves-height k (lacking o) (lacking r)

member-height : (k : ℕ) (xs : List Cell) → height (member_of k xs) ≤ 1
member-height k [] = omega arith
member-height k (x ∷ xs) = omega arith

among-height : (k : ℕ) (ps : List PositionTree) → height (member_among k ps) ≤ 1
among-height k [] = omega arith
among-height k (p ∷ ps) = member-height k (cells_of (p ∷ ps))

prefix-height : (k : ℕ) (p : PositionTree) (f : Formula) → prefix_of k p ≡ Some f → height f ≤ 0
prefix-height k (exactly x) f e = let same : prefix_test k x ≡ f = cc in subst (λ (g : Formula). height g ≤ 0) same (omega arith)
prefix-height k (just_above x) f e = absurd cc
prefix-height k (lacking o) f e = absurd cc

begun-height : (k : ℕ) (t : TypeTree) (l : LiteralTree) (f : Formula) → formula_in k t (begun l) ≡ Some f → height f ≤ 0
begun-height k t l f e =
    let g = guard_some (holds_strings t) (option_and_then (prefix_of k) (position_of t l)) f e in
    let a = bind_some (position_of t l) (prefix_of k) f g.1 in
    prefix-height k a.0 f a.2

asked-height : (k : ℕ) (case : Case) (parts : List Part) (asked : Option (List ℕ)) → height (prefix_or k asked (pattern_test k case parts)) ≤ 0
asked-height k case parts None = omega arith
asked-height k case parts (Some bs) = omega arith

like-height : (k : ℕ) (t : TypeTree) (case : Case) (parts : List Part) (f : Formula) → like_in k t case parts ≡ Some f → height f ≤ 0
like-height k t case parts f e =
    let g = guard_some (is_utf8_type t) (Some (like_test k case parts)) f e in
    let said : Some (like_test k case parts) ≡ Some f = g.1 in
    let same : like_test k case parts ≡ f = cc in
    subst (λ (h : Formula). height h ≤ 0) same (asked-height k case parts (prefix_asked case parts))

module _ (k : ℕ) (t : TypeTree) where
  listed-height : (ls : List LiteralTree) (f : Formula) → option_map (member_among k) (positions_of t ls) ≡ Some f → height f ≤ 1
  listed-height ls f e =
      let m = map_some (positions_of t ls) (member_among k) f e in
      subst (λ (g : Formula). height g ≤ 1) m.2 (among-height k m.0)

  between-height : (lower upper : LiteralTree) (f : Formula) → option_and_then (λ p. option_map (range_of k p) (position_of t upper)) (position_of t lower) ≡ Some f → height f ≤ 3
  between-height lower upper f e =
      let a = bind_some (position_of t lower) (λ p. option_map (range_of k p) (position_of t upper)) f e in
      let b = map_some (position_of t upper) (range_of k a.0) f a.2 in
      subst (λ (g : Formula). height g ≤ 3) b.2 (range-height k a.0 b.0)

  compared-height : (op : CompareOperator) (l : LiteralTree) (f : Formula) → option_map (comparison_of k op) (position_of t l) ≡ Some f → height f ≤ 2
  compared-height op l f e =
      let m = map_some (position_of t l) (comparison_of k op) f e in
      subst (λ (g : Formula). height g ≤ 2) m.2 (comparison-height k op m.0)

  missing-height : (f : Formula) → formula_in k t missing ≡ Some f → height f ≤ 0
  missing-height f e = let same : null_test k ≡ f = cc in subst (λ (g : Formula). height g ≤ 0) same (omega arith)

  -- a formula that is denied nests one deeper
  denied-height : (n : ℕ) (c : Condition) (f : Formula) → ((g : Formula) → formula_in k t c ≡ Some g → height g ≤ n) → option_map negation (formula_in k t c) ≡ Some f → height f ≤ suc n
  denied-height n c f below e =
      let m = map_some (formula_in k t c) negation f e in
      let low = below m.0 m.1 in
      subst (λ (g : Formula). height g ≤ suc n) m.2 (omega (arith, low))

  test-low : {ts : List TokenTree} {c : Condition} → IsTest ts c → (f : Formula) → formula_in k t c ≡ Some f → IsLow 3 ts f
  test-low in_nothing f e =
      let low = listed-height [] f e in
      record { high = omega (arith, low); tokens = omega (arith, low) }
  test-low (in_literals {ts} {ls} l) f e =
      let low = listed-height ls f e in
      record { high = omega (arith, low); tokens = omega (arith, low) }
  test-low (between_literals {x} {y} {lower} {upper} p q) f e =
      let low = between-height lower upper f e in
      record { high = low; tokens = omega (arith, low) }
  test-low (like_pattern {pattern} {ts} {escape} {parts} d p) f e =
      let low = like-height k t Sensitive parts f e in
      record { high = omega (arith, low); tokens = omega (arith, low) }
  test-low (ilike_pattern {pattern} {ts} {escape} {parts} d p) f e =
      let low = like-height k t Insensitive parts f e in
      record { high = omega (arith, low); tokens = omega (arith, low) }

  -- a test, and one that is denied
  denied-low : {ts : List TokenTree} {c : Condition} → IsTest ts c → (f : Formula) → option_map negation (formula_in k t c) ≡ Some f → IsLow 4 (keyword_token keywords.Not ∷ ts) f
  denied-low {ts} {c} d f e =
      let m = map_some (formula_in k t c) negation f e in
      let low = test-low d m.0 m.1 in
      subst (IsLow 4 (keyword_token keywords.Not ∷ ts)) m.2 (record { high = omega (arith, low.high); tokens = omega (arith, low.tokens) })

  condition-low : {ts : List TokenTree} {c : Condition} → IsCondition ts c → (f : Formula) → formula_in k t c ≡ Some f → IsLow 4 ts f
  condition-low (compares {op} {x} {l} said) f e =
      let low = compared-height op l f e in
      record { high = omega (arith, low); tokens = omega (arith, low) }
  condition-low is_null f e =
      let low = missing-height f e in
      record { high = omega (arith, low); tokens = omega (arith, low) }
  condition-low is_not_null f e =
      let low = denied-height 0 missing f missing-height e in
      record { high = omega (arith, low); tokens = omega (arith, low) }
  condition-low (bare_test d) f e =
      let low = test-low d f e in
      record { high = omega (arith, low.high); tokens = low.tokens }
  condition-low (not_test d) f e = denied-low d f e

predicate-low : {columns : List ColumnTree} {ts : List TokenTree} {f : Formula} → IsPredicate columns ts f → IsLow 4 ts f
predicate-low says_true = record { high = omega arith; tokens = omega arith }
predicate-low says_false = record { high = omega arith; tokens = omega arith }
predicate-low says_null = record { high = omega arith; tokens = omega arith }
predicate-low (on_column {name} {k} {t} {ts} {c} {f} named d e) =
    let low = condition-low k t d f e in
    record { high = low.high; tokens = omega (arith, low.tokens) }
predicate-low (prefix_call {name} {k} {t} {x} {l} {f} named said e) =
    let low = begun-height k t l f e in
    record { high = omega (arith, low); tokens = omega (arith, low) }

-- the most that a filter of a level can be, if so many connectives and parentheses nest in its tokens: of a left operand more may nest
abbrev most : Level → ℕ → ℕ
most levels.Not n = max 4 (2 * n + 3)
most levels.And n = 2 * n + 4
most levels.Or n = 2 * n + 5

filter-low : {columns : List ColumnTree} {l : Level} {n : ℕ} {ts : List TokenTree} {f : Formula} → IsFilter columns l n ts f → IsLow (most l n) ts f
filter-low (predicate {n} d) =
    let low = predicate-low d in
    record { high = omega (arith, low.high); tokens = low.tokens }
filter-low (group {n} {ts} d) =
    let low = filter-low d in
    record { high = omega (arith, low.high); tokens = omega (arith, low.tokens, length-append ts (closing ∷ [])) }
filter-low (not_filter {n} d) =
    let low = filter-low d in
    record { high = omega (arith, low.high); tokens = omega (arith, low.tokens) }
filter-low (one_operand {n} d) =
    let low = filter-low d in
    record { high = omega (arith, low.high); tokens = low.tokens }
filter-low (and_filter {n} {ts} {us} d e) =
    let left = filter-low d in
    let right = filter-low e in
    record { high = omega (arith, left.high, right.high); tokens = omega (arith, left.tokens, right.tokens, length-append ts (keyword_token keywords.And ∷ us)) }
filter-low (one_conjunction {n} d) =
    let low = filter-low d in
    record { high = omega (arith, low.high); tokens = low.tokens }
filter-low (or_filter {n} {ts} {us} d e) =
    let left = filter-low d in
    let right = filter-low e in
    record { high = omega (arith, left.high, right.high); tokens = omega (arith, left.tokens, right.tokens, length-append ts (keyword_token keywords.Or ∷ us)) }

-- the filter that all tokens of a text are
pub whole-low : {columns : List ColumnTree} {n : ℕ} {ts : List TokenTree} {f : Formula} → IsFilter columns levels.Or n ts f → IsLow (2 * n + 5) ts f
whole-low d = filter-low d

-- the filter that a text is
pub texts_low : TextsNestSo
texts_low n columns sql f h = (whole-low h.means).high
