-- What a filter asks of members is answered rightly on each row of a zone.
use Rattle.std.proofs.Common.{◌≡◌, ℕ, Bool, true, false, ◌&&◌, ◌||◌, List, [], ◌∷◌, map, Contains, Option, Some, None, refl, sym, ap, ◌∙◌, arith}
use Rattle.std.specs.List.{list_any}
use Rattle.std.proofs.lemmas.Bool.{false≢true}
use Rattle.std.proofs.lemmas.List.{get_or-map, length-map}
use Rattle.membership.specs.Words.{may_contain}
use Rattle.vortex_cells.specs.Cells.{Cell}
use Rattle.vortex_filter.specs.Formula.{Formula, constant, comparison, null_test, membership, range, prefix_test, pattern_test, both, either, negation, cell_at, compare_truth, member_truth, truth}
use Rattle.vortex_filter.specs.Truths.{truth_and, truth_not, truth_or}
use Rattle.vortex_filter.specs.declared.operator.CompareOperator.{CompareOperator}
use Rattle.vortex_filter.specs.declared.operator.CompareOperator.TheVariants.{Eq, NotEq, Gt, Gte, Lt, Lte}
use Rattle.vortex_filter.specs.declared.truth.Truth.{Truth}
use Rattle.vortex_filter.specs.declared.truth.Truth.TheVariants.{False, Unknown, True}
use Rattle.filter_pruning.specs.OutcomeSets.{allows, any, only, outcomes_and, outcomes_not, outcomes_or}
use Rattle.filter_pruning.specs.Pruning.{column}
use Rattle.filter_pruning.specs.declared.outcomes.Outcomes.{Outcomes}
use Rattle.filter_pruning.proofs.Tests.{and_true, or_left, or_right}
use Rattle.filter_membership.specs.Laws.{FiltersAreMembers, PredicatesCover}
use Rattle.value_membership.specs.Members.{hash_of}
use Rattle.filter_membership.specs.Filters.{filter_at, literal_hash, may_contain_in}
use Rattle.filter_membership.specs.Predicates.{AreMembersOf, Covers, MatchesNoRow, asked, asked_by, list_outcomes, may_have, members_outcomes}
use Rattle.filter_membership.proofs.Equality.{HasCell, cell_had, none_equal, not_equal}

-- ---- sets of truth values

only_allows : (t : Truth) → allows (only t) t ≡ true
only_allows False = refl
only_allows Unknown = refl
only_allows True = refl

any_allows : (t : Truth) → allows any t ≡ true
any_allows False = refl
any_allows Unknown = refl
any_allows True = refl

and_allows : (a b : Outcomes) (s t : Truth) → allows a s ≡ true → allows b t ≡ true → allows (outcomes_and a b) (truth_and s t) ≡ true
and_allows a b False t e f = or_left a.may_be_false b.may_be_false e
and_allows a b Unknown False e f = or_right a.may_be_false b.may_be_false f
and_allows a b Unknown Unknown e f = or_left _ _ (and_true _ _ e (or_left b.may_be_unknown b.may_be_true f))
and_allows a b Unknown True e f = or_left _ _ (and_true _ _ e (or_right b.may_be_unknown b.may_be_true f))
and_allows a b True False e f = or_right a.may_be_false b.may_be_false f
and_allows a b True Unknown e f = or_right (a.may_be_unknown && (b.may_be_unknown || b.may_be_true)) _ (and_true _ _ e f)
and_allows a b True True e f = and_true _ _ e f

or_allows : (a b : Outcomes) (s t : Truth) → allows a s ≡ true → allows b t ≡ true → allows (outcomes_or a b) (truth_or s t) ≡ true
or_allows a b True t e f = or_left a.may_be_true b.may_be_true e
or_allows a b Unknown True e f = or_right a.may_be_true b.may_be_true f
or_allows a b Unknown Unknown e f = or_left _ _ (and_true _ _ e (or_left b.may_be_unknown b.may_be_false f))
or_allows a b Unknown False e f = or_left _ _ (and_true _ _ e (or_right b.may_be_unknown b.may_be_false f))
or_allows a b False True e f = or_right a.may_be_true b.may_be_true f
or_allows a b False Unknown e f = or_right (a.may_be_unknown && (b.may_be_unknown || b.may_be_false)) _ (and_true _ _ e f)
or_allows a b False False e f = and_true _ _ e f

not_allows : (a : Outcomes) (t : Truth) → allows a t ≡ true → allows (outcomes_not a) (truth_not t) ≡ true
not_allows a False e = e
not_allows a Unknown e = e
not_allows a True e = e

-- ---- one test

-- what is True only if a literal may be had
list_allows : (may : ℕ → Bool) (hashes : List (Option ℕ)) (t : Truth) → (list_any (may_have may) hashes ≡ false → t ≡ True → ⊥)
    → allows (list_outcomes may hashes) t ≡ true
list_allows may hashes False p = refl
list_allows may hashes Unknown p = refl
list_allows may hashes True p = by_test (list_any (may_have may) hashes) (λ e. p e refl)
  where
    by_test : (b : Bool) → (b ≡ false → ⊥) → b ≡ true
    by_test true n = refl
    by_test false n = absurd (n refl)

-- the test of one literal
single : (b : Bool) → (b || false) ≡ false → b ≡ false
single true e = absurd (false≢true (sym e))
single false e = refl

comparison_allows : (op : CompareOperator) (k : ℕ) (literal x : Cell) (may : ℕ → ℕ → Bool) → HasCell (may k) x
    → allows (members_outcomes (asked_by op k literal) may) (compare_truth op x literal) ≡ true
comparison_allows Eq k literal x may has =
    list_allows (may k) (literal_hash literal ∷ []) (compare_truth Eq x literal)
    (λ none. not_equal (may k) x literal has (single (may_have (may k) (literal_hash literal)) none))
comparison_allows NotEq k literal x may has = any_allows (compare_truth NotEq x literal)
comparison_allows Gt k literal x may has = any_allows (compare_truth Gt x literal)
comparison_allows Gte k literal x may has = any_allows (compare_truth Gte x literal)
comparison_allows Lt k literal x may has = any_allows (compare_truth Lt x literal)
comparison_allows Lte k literal x may has = any_allows (compare_truth Lte x literal)

list_covers : (k : ℕ) (literals : List Cell) (x : Cell) (may : ℕ → ℕ → Bool) → HasCell (may k) x
    → allows (list_outcomes (may k) (map literal_hash literals)) (member_truth x literals) ≡ true
list_covers k literals x may has =
    list_allows (may k) (map literal_hash literals) (member_truth x literals) (λ none. none_equal (may k) x literals False has none (λ h. cc))

-- ---- rows

row_covered : (f : Formula) (may : ℕ → ℕ → Bool) (row : List Cell) → ((k : ℕ) → HasCell (may k) (cell_at row k))
    → allows (members_outcomes (asked f) may) (truth f row) ≡ true
row_covered (constant t) may row has = only_allows t
row_covered (comparison k op literal) may row has = comparison_allows op k literal (cell_at row k) may (has k)
row_covered (membership k literals) may row has = list_covers k literals (cell_at row k) may (has k)
row_covered (both f g) may row has =
    and_allows (members_outcomes (asked f) may) (members_outcomes (asked g) may) (truth f row) (truth g row) (row_covered f may row has) (row_covered g may row has)
row_covered (either f g) may row has =
    or_allows (members_outcomes (asked f) may) (members_outcomes (asked g) may) (truth f row) (truth g row) (row_covered f may row has) (row_covered g may row has)
row_covered (negation f) may row has = not_allows (members_outcomes (asked f) may) (truth f row) (row_covered f may row has)
row_covered (null_test k) may row has = any_allows (truth (null_test k) row)
row_covered (range k x y) may row has = any_allows (truth (range k x y) row)
row_covered (prefix_test k p) may row has = any_allows (truth (prefix_test k p) row)
row_covered (pattern_test k case parts) may row has = any_allows (truth (pattern_test k case parts) row)

-- the cell of a row is one of its column's
cell_of_row : (rows : List (List Cell)) (row : List Cell) (k : ℕ) → Contains rows row → Contains (column k rows) (cell_at row k)
cell_of_row rows row k c = (
  c.0,
  omega (arith, length-map rows (λ (r : List Cell). cell_at r k), c.1),
  get_or-map (λ (r : List Cell). cell_at r k) rows c.0 row (cell_at row k) c.1 ∙ ap (λ (r : List Cell). cell_at r k) c.2,
)

has_cells : (may : ℕ → ℕ → Bool) (rows : List (List Cell)) → AreMembersOf may rows → (row : List Cell) → Contains rows row → (k : ℕ) → HasCell (may k) (cell_at row k)
has_cells may rows are row c k = cell_had (may k) (cell_at row k) (λ value. are.values k (cell_at row k) (record { cell = cell_of_row rows row k c; value = value }))

pub predicates_cover : PredicatesCover
predicates_cover f may rows are row c = row_covered f may row (has_cells may rows are row c)

-- ---- what follows for a reader

pub none_match : (f : Formula) (may : ℕ → ℕ → Bool) (o : Outcomes) → Covers f may o → o.may_be_true ≡ false → MatchesNoRow f may
none_match f may o covers e rows are row c t = false≢true (sym e ∙ sym (ap (allows o) t) ∙ covers rows are row c)

-- ---- the filters of columns

-- a filter that is there says so
filter_says : (filter : Option (List ℕ)) (hash : ℕ) → ((m : List ℕ) → filter ≡ Some m → may_contain m hash ≡ true) → may_contain_in filter hash ≡ true
filter_says None hash h = refl
filter_says (Some m) hash h = h m refl

pub filters_are_members : FiltersAreMembers
filters_are_members filters rows each = record {
  values = λ k x h. filter_says (filter_at filters k) (hash_of x) (λ m e. (each k m e).values x h);
}
