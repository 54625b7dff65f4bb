-- The outcomes of a formula cover its truth on each row of a zone.
use Rattle.std.proofs.Common.{◌≡◌, ℕ, Bool, true, false, not, ◌&&◌, ◌||◌, cond, List, [], ◌∷◌, slice_get, fold, Option, Some, None, Ordering, Less, Equal, Greater, refl, sym, ap, ◌∙◌}
use Rattle.std.proofs.lemmas.Bool.{false≢true}
use Rattle.vortex_cells.specs.Cells.{Cell, cell_order, is_null_cell}
use Rattle.vortex_statistics.specs.Statistics.{Known, may_be_null, may_be_value}
use Rattle.vortex_cells.proofs.CellLaws.{IsOrder}
use Rattle.vortex_filter.specs.declared.operator.CompareOperator.{CompareOperator}
use Rattle.vortex_filter.specs.declared.operator.CompareOperator.TheVariants.{Eq, Gte, Lte}
use Rattle.filter_pruning.specs.declared.orders.Orders.{Orders}
use Rattle.filter_pruning.specs.declared.outcomes.Outcomes.{Outcomes}
use Rattle.vortex_filter.specs.declared.truth.Truth.{Truth}
use Rattle.vortex_filter.specs.declared.truth.Truth.TheVariants.{False, Unknown, True}
use Rattle.filter_pruning.specs.Exactness.{Admits}
use Rattle.vortex_filter.specs.Formula.{Formula, constant, comparison, null_test, membership, range, prefix_test, pattern_test, both, either, negation, cell_at, compare_truth, null_truth, order_truth, truth}
use Rattle.vortex_filter.specs.Operators.{holds}
use Rattle.filter_pruning.specs.Orders.{includes, may_fail, may_hold, orders}
use Rattle.filter_pruning.specs.OutcomeSets.{allows, any, is_only_true, only, outcomes_and, outcomes_not, outcomes_or}
use Rattle.filter_pruning.specs.Outcomes.{compare_outcomes, null_outcomes, outcomes, unknown_outcomes, value_outcomes}
use Rattle.filter_pruning.specs.Pruning.{Covers, MatchesEachRow, MatchesNoRow}
use Rattle.vortex_filter.specs.Truths.{truth_and, truth_not, truth_of, truth_or}
use Rattle.filter_pruning.proofs.Admitting.{row_admits}
use Rattle.filter_pruning.proofs.Bounds.{includes_order}
use Rattle.filter_pruning.proofs.PatternLaws.{pattern_allowed}
use Rattle.filter_pruning.proofs.PrefixLaws.{prefix_allowed}
use Rattle.filter_pruning.proofs.Tests.{and_true, or_left, or_right}

-- ---- sets of truth values

only_allows : (t : Truth) → allows (only t) t ≡ true
only_allows False = refl
only_allows Unknown = refl
only_allows True = refl

any_allows : (t : Truth) → allows any t ≡ true
any_allows False = refl
any_allows Unknown = refl
any_allows True = refl

and_allows : (a b : Outcomes) (s t : Truth) → allows a s ≡ true → allows b t ≡ true → allows (outcomes_and a b) (truth_and s t) ≡ true
and_allows a b False t e f = or_left a.may_be_false b.may_be_false e
and_allows a b Unknown False e f = or_right a.may_be_false b.may_be_false f
and_allows a b Unknown Unknown e f = or_left _ _ (and_true _ _ e (or_left b.may_be_unknown b.may_be_true f))
and_allows a b Unknown True e f = or_left _ _ (and_true _ _ e (or_right b.may_be_unknown b.may_be_true f))
and_allows a b True False e f = or_right a.may_be_false b.may_be_false f
and_allows a b True Unknown e f = or_right (a.may_be_unknown && (b.may_be_unknown || b.may_be_true)) _ (and_true _ _ e f)
and_allows a b True True e f = and_true _ _ e f

or_allows : (a b : Outcomes) (s t : Truth) → allows a s ≡ true → allows b t ≡ true → allows (outcomes_or a b) (truth_or s t) ≡ true
or_allows a b True t e f = or_left a.may_be_true b.may_be_true e
or_allows a b Unknown True e f = or_right a.may_be_true b.may_be_true f
or_allows a b Unknown Unknown e f = or_left _ _ (and_true _ _ e (or_left b.may_be_unknown b.may_be_false f))
or_allows a b Unknown False e f = or_left _ _ (and_true _ _ e (or_right b.may_be_unknown b.may_be_false f))
or_allows a b False True e f = or_right a.may_be_true b.may_be_true f
or_allows a b False Unknown e f = or_right (a.may_be_unknown && (b.may_be_unknown || b.may_be_false)) _ (and_true _ _ e f)
or_allows a b False False e f = and_true _ _ e f

not_allows : (a : Outcomes) (t : Truth) → allows a t ≡ true → allows (outcomes_not a) (truth_not t) ≡ true
not_allows a False e = e
not_allows a Unknown e = e
not_allows a True e = e

-- ---- a comparison

-- the comparison holds in one of the orders
held : (op : CompareOperator) (s : Orders) (o : Ordering) → includes s (Some o) ≡ true → holds op o ≡ true → may_hold op s ≡ true
held op s Less e f = or_left _ _ (or_left _ _ (and_true _ _ e f))
held op s Equal e f = or_left _ _ (or_right (s.less && holds op Less) _ (and_true _ _ e f))
held op s Greater e f = or_right ((s.less && holds op Less) || (s.equal && holds op Equal)) _ (and_true _ _ e f)

failed : (op : CompareOperator) (s : Orders) (o : Ordering) → includes s (Some o) ≡ true → holds op o ≡ false → may_fail op s ≡ true
failed op s Less e f = or_left _ _ (or_left _ _ (and_true _ _ e (ap not f)))
failed op s Equal e f = or_left _ _ (or_right (s.less && not (holds op Less)) _ (and_true _ _ e (ap not f)))
failed op s Greater e f = or_right ((s.less && not (holds op Less)) || (s.equal && not (holds op Equal))) _ (and_true _ _ e (ap not f))

-- of a value that stands to the literal as o
order_allowed : (s : Known) (op : CompareOperator) (literal : Cell) (o : Option Ordering) → may_be_value s ≡ true → includes (orders s literal) o ≡ true
    → allows (value_outcomes s op literal) (order_truth op o) ≡ true
order_allowed s op literal None v e = or_right (may_be_null s) _ (and_true _ _ v e)
order_allowed s op literal (Some o) v e = by_test (holds op o) (held op (orders s literal) o e) (failed op (orders s literal) o e)
  where
    by_test : (b : Bool) → (b ≡ true → may_hold op (orders s literal) ≡ true) → (b ≡ false → may_fail op (orders s literal) ≡ true) → allows (value_outcomes s op literal) (truth_of b) ≡ true
    by_test true h f = and_true _ _ v (h refl)
    by_test false h f = and_true _ _ v (f refl)

-- a comparison with a null is Unknown
pub null_literal : (op : CompareOperator) (x literal : Cell) → is_null_cell literal ≡ true → compare_truth op x literal ≡ Unknown
null_literal op x literal e =
    ap (λ b. cond (is_null_cell x || b) Unknown (order_truth op (cell_order x literal))) e ∙ either_way (is_null_cell x)
  where
    either_way : (b : Bool) → cond (b || true) Unknown (order_truth op (cell_order x literal)) ≡ Unknown
    either_way true = refl
    either_way false = refl

-- any cell makes a test that is always Unknown possible
unknown_allowed : (s : Known) (x : Cell) → Admits s x → allows (unknown_outcomes s) Unknown ≡ true
unknown_allowed s x a = by_null (is_null_cell x) a.null a.value
  where
    by_null : (b : Bool) → (b ≡ true → may_be_null s ≡ true) → (b ≡ false → may_be_value s ≡ true) → (may_be_null s || may_be_value s) ≡ true
    by_null true n v = or_left _ _ (n refl)
    by_null false n v = or_right (may_be_null s) _ (v refl)

-- ---- a test for null

null_allowed : (column : Option Known) (x : Cell) → ((s : Known) → column ≡ Some s → Admits s x) → allows (null_outcomes column) (null_truth x) ≡ true
null_allowed None x a = by_null (is_null_cell x)
  where
    by_null : (b : Bool) → allows (null_outcomes None) (truth_of b) ≡ true
    by_null true = refl
    by_null false = refl
null_allowed (Some s) x a = by_null (is_null_cell x) (a s refl).null (a s refl).value
  where
    by_null : (b : Bool) → (b ≡ true → may_be_null s ≡ true) → (b ≡ false → may_be_value s ≡ true) → allows (null_outcomes (Some s)) (truth_of b) ≡ true
    by_null true n v = n refl
    by_null false n v = v refl

module _ (law : IsOrder cell_order) where
  -- of a cell, with a literal that is not null
  pub cell_allowed : (s : Known) (op : CompareOperator) (x literal : Cell) → Admits s x → is_null_cell literal ≡ false
      → allows (value_outcomes s op literal) (compare_truth op x literal) ≡ true
  cell_allowed s op x literal a n = by_null (is_null_cell x) refl
    where
      by_null : (b : Bool) → is_null_cell x ≡ b → allows (value_outcomes s op literal) (cond (b || is_null_cell literal) Unknown (order_truth op (cell_order x literal))) ≡ true
      by_null true e = or_left _ _ (a.null e)
      by_null false e =
          ap (λ c. allows (value_outcomes s op literal) (cond c Unknown (order_truth op (cell_order x literal)))) n
          ∙ order_allowed s op literal (cell_order x literal) (a.value e) (includes_order law x literal e n s (a.within e))

  -- of a cell, if something is known of its column or not
  pub comparison_allowed : (column : Option Known) (op : CompareOperator) (x literal : Cell)
      → ((s : Known) → column ≡ Some s → Admits s x) → allows (compare_outcomes column op literal) (compare_truth op x literal) ≡ true
  comparison_allowed None op x literal a = by_literal (is_null_cell literal) refl
    where
      by_literal : (b : Bool) → is_null_cell literal ≡ b → allows (cond b (only Unknown) any) (compare_truth op x literal) ≡ true
      by_literal true e = ap (allows (only Unknown)) (null_literal op x literal e)
      by_literal false e = any_allows (compare_truth op x literal)
  comparison_allowed (Some s) op x literal a = by_literal (is_null_cell literal) refl
    where
      by_literal : (b : Bool) → is_null_cell literal ≡ b → allows (cond b (unknown_outcomes s) (value_outcomes s op literal)) (compare_truth op x literal) ≡ true
      by_literal true e = ap (allows (unknown_outcomes s)) (null_literal op x literal e) ∙ unknown_allowed s x (a s refl)
      by_literal false e = cell_allowed s op x literal (a s refl) e

  -- of a cell and literals
  members_allowed : (column : Option Known) (x : Cell) → ((s : Known) → column ≡ Some s → Admits s x) → (literals : List Cell) (o : Outcomes) (t : Truth) → allows o t ≡ true
      → allows (fold (λ o l. outcomes_or o (compare_outcomes column Eq l)) o literals) (fold (λ t l. truth_or t (compare_truth Eq x l)) t literals) ≡ true
  members_allowed column x a [] o t h = h
  members_allowed column x a (l ∷ ls) o t h =
      members_allowed column x a ls (outcomes_or o (compare_outcomes column Eq l)) (truth_or t (compare_truth Eq x l))
      (or_allows o (compare_outcomes column Eq l) t (compare_truth Eq x l) h (comparison_allowed column Eq x l a))

  -- of a row, by what the statistics allow of its cells
  row_covered : (f : Formula) (statistics : List Known) (row : List Cell)
      → ((k : ℕ) (s : Known) → slice_get statistics k ≡ Some s → Admits s (cell_at row k)) → allows (outcomes f statistics) (truth f row) ≡ true
  row_covered (constant t) statistics row a = only_allows t
  row_covered (comparison k op literal) statistics row a = comparison_allowed (slice_get statistics k) op (cell_at row k) literal (a k)
  row_covered (null_test k) statistics row a = null_allowed (slice_get statistics k) (cell_at row k) (a k)
  row_covered (membership k literals) statistics row a = members_allowed (slice_get statistics k) (cell_at row k) (a k) literals (only False) False refl
  row_covered (range k lower upper) statistics row a =
      and_allows (compare_outcomes (slice_get statistics k) Gte lower) (compare_outcomes (slice_get statistics k) Lte upper) (compare_truth Gte (cell_at row k) lower) (compare_truth Lte (cell_at row k) upper)
      (comparison_allowed (slice_get statistics k) Gte (cell_at row k) lower (a k)) (comparison_allowed (slice_get statistics k) Lte (cell_at row k) upper (a k))
  row_covered (prefix_test k prefix) statistics row a = prefix_allowed law (slice_get statistics k) (cell_at row k) prefix (a k)
  row_covered (pattern_test k case parts) statistics row a = pattern_allowed law case parts (slice_get statistics k) (cell_at row k) (a k)
  row_covered (both p q) statistics row a = and_allows (outcomes p statistics) (outcomes q statistics) (truth p row) (truth q row) (row_covered p statistics row a) (row_covered q statistics row a)
  row_covered (either p q) statistics row a = or_allows (outcomes p statistics) (outcomes q statistics) (truth p row) (truth q row) (row_covered p statistics row a) (row_covered q statistics row a)
  row_covered (negation p) statistics row a = not_allows (outcomes p statistics) (truth p row) (row_covered p statistics row a)

  -- of each row of a zone
  pub covered : (f : Formula) (statistics : List Known) → Covers f statistics (outcomes f statistics)
  covered f statistics rows right row c = row_covered f statistics row (row_admits statistics rows right row c)

-- ---- what follows for a reader

pub none_match : (f : Formula) (statistics : List Known) (o : Outcomes) → Covers f statistics o → o.may_be_true ≡ false → MatchesNoRow f statistics
none_match f statistics o covers e rows right row c t = false≢true (sym e ∙ sym (ap (allows o) t) ∙ covers rows right row c)

sure_true : (o : Outcomes) (t : Truth) → is_only_true o ≡ true → allows o t ≡ true → t ≡ True
sure_true o False e h = absurd (false≢true (sym (ap (λ b. not (b || o.may_be_unknown)) h) ∙ e))
sure_true o Unknown e h = absurd (false≢true (sym (ap not (or_right o.may_be_false _ h)) ∙ e))
sure_true o True e h = refl

pub all_match : (f : Formula) (statistics : List Known) (o : Outcomes) → Covers f statistics o → is_only_true o ≡ true → MatchesEachRow f statistics
all_match f statistics o covers e rows right row c = sure_true o (truth f row) e (covers rows right row c)
