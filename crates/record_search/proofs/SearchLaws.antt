-- What statistics decide is so of the rows that they describe.
use Rattle.std.proofs.Common.{◌≡◌, ℕ, zero, suc, List, [], ◌∷◌, Bool, true, false, not, Option, None, Some, Contains, is_some, refl, sym, ap, ◌∙◌, subst, arith}
use Rattle.std.specs.List.{AllPass, cons_option, filter_map}
use Rattle.record_rows.specs.declared.schema.ColumnType.{ColumnType}
use Rattle.vortex_filter.specs.Formula.{Formula, truth}
use Rattle.filter_pruning.specs.OutcomeSets.{is_only_true}
use Rattle.filter_pruning.specs.Outcomes.{outcomes}
use Rattle.vortex_filter.specs.Truths.{is_true}
use Rattle.filter_pruning.specs.declared.outcomes.Outcomes.{Outcomes}
use Rattle.vortex_filter.specs.declared.truth.Truth.{Truth}
use Rattle.vortex_filter.specs.declared.truth.Truth.TheVariants.{False, True, Unknown}
use Rattle.filter_pruning.proofs.Soundness.{all_match, covered, none_match}
use Rattle.vortex_row.specs.Laws.{KeysAreApart, ValuesHaveNoTyped}
use Rattle.vortex_cells.specs.Cells.{Cell, cell_order}
use Rattle.vortex_statistics.specs.Statistics.{Known}
use Rattle.vortex_cells.proofs.CellLaws.{IsOrder}
use Rattle.zone_index.specs.Records.{is_same}
use Rattle.zone_index.specs.declared.records.Decision.TheVariants as decisions
use Rattle.record_search.specs.Decoding.{columns_in}
use Rattle.record_search.specs.Searched.{AreDescribed, decision_by, decision_in, decision_of, matches_row}
use Rattle.record_search.proofs.ReadBack.{described_right}

-- ---- decisions

none_by : (o : Outcomes) (b c : Bool) → o.may_be_true ≡ b → is_only_true o ≡ c → decision_by o ≡ decisions.NoneMatch → o.may_be_true ≡ false
none_by o false c e f h = e
none_by o true true e f h = absurd (let g : decisions.AllMatch ≡ decisions.NoneMatch = sym (rw (e, f) refl) ∙ h in cc)
none_by o true false e f h = absurd (let g : decisions.Unknown ≡ decisions.NoneMatch = sym (rw (e, f) refl) ∙ h in cc)

all_by : (o : Outcomes) (b c : Bool) → o.may_be_true ≡ b → is_only_true o ≡ c → decision_by o ≡ decisions.AllMatch → is_only_true o ≡ true
all_by o true true e f h = f
all_by o false c e f h = absurd (let g : decisions.NoneMatch ≡ decisions.AllMatch = sym (rw e refl) ∙ h in cc)
all_by o true false e f h = absurd (let g : decisions.Unknown ≡ decisions.AllMatch = sym (rw (e, f) refl) ∙ h in cc)

-- no row of these matches
no_row_matches : IsOrder cell_order → KeysAreApart → ValuesHaveNoTyped → (cs : List ColumnType) (f : Formula) (rows : List (List Cell)) (bytes : List ℕ) (o : Option (List Known)) → columns_in cs bytes ≡ o → decision_in f o ≡ decisions.NoneMatch → AreDescribed cs rows bytes
    → (row : List Cell) → Contains rows row → ¬ (truth f row ≡ True)
no_row_matches law apart untyped cs f rows bytes None e h described row c = absurd cc
no_row_matches law apart untyped cs f rows bytes (Some ss) e h described row c =
    let o = outcomes f ss in
    none_match f ss o (covered law f ss) (none_by o o.may_be_true (is_only_true o) refl refl h) rows (described_right apart untyped cs rows bytes ss described e) row c

each_row_matches : IsOrder cell_order → KeysAreApart → ValuesHaveNoTyped → (cs : List ColumnType) (f : Formula) (rows : List (List Cell)) (bytes : List ℕ) (o : Option (List Known)) → columns_in cs bytes ≡ o → decision_in f o ≡ decisions.AllMatch → AreDescribed cs rows bytes
    → (row : List Cell) → Contains rows row → truth f row ≡ True
each_row_matches law apart untyped cs f rows bytes None e h described row c = absurd cc
each_row_matches law apart untyped cs f rows bytes (Some ss) e h described row c =
    let o = outcomes f ss in
    all_match f ss o (covered law f ss) (all_by o o.may_be_true (is_only_true o) refl refl h) rows (described_right apart untyped cs rows bytes ss described e) row c

-- ---- records

not_true : (t : Truth) → ¬ (t ≡ True) → not (is_true t) ≡ true
not_true False h = refl
not_true Unknown h = refl
not_true True h = absurd (h refl)

contains_first : (row : List Cell) (rows : List (List Cell)) → Contains (row ∷ rows) row
contains_first row rows = (0, omega arith, refl)

contains_later : (o : Option (List Cell)) (rows : List (List Cell)) (row : List Cell) → Contains rows row → Contains (cons_option o rows) row
contains_later None rows row c = c
contains_later (Some x) rows row c = (suc c.0, omega (arith, c.1), c.2)

contains_here : (o : Option (List Cell)) (rows : List (List Cell)) (row : List Cell) → o ≡ Some row → Contains (cons_option o rows) row
contains_here None rows row e = absurd cc
contains_here (Some x) rows row e = let same : row ≡ x = cc in subst (λ (r : List Cell). Contains (x ∷ rows) r) (sym same) (contains_first x rows)

no_match : (f : Formula) (o : Option (List Cell)) → ((row : List Cell) → o ≡ Some row → ¬ (truth f row ≡ True)) → not (matches_row f o) ≡ true
no_match f None h = refl
no_match f (Some row) h = not_true (truth f row) (h row refl)

none_pass : (f : Formula) (h : List ℕ → Option (List Cell)) (records : List (List ℕ)) → ((row : List Cell) → Contains (filter_map h records) row → ¬ (truth f row ≡ True)) → AllPass (λ line. not (matches_row f (h line))) records
none_pass f h [] none k d below = absurd (omega arith)
none_pass f h (line ∷ lines) none zero d below = no_match f (h line) (λ row e. none row (contains_here (h line) (filter_map h lines) row e))
none_pass f h (line ∷ lines) none (suc k) d below = none_pass f h lines (λ row c. none row (contains_later (h line) (filter_map h lines) row c)) k d (omega arith)

true_is : (t : Truth) → t ≡ True → is_true t ≡ true
true_is t e = ap is_true e

all_same : (f : Formula) (o : Option (List Cell)) → ((row : List Cell) → o ≡ Some row → truth f row ≡ True) → is_same (matches_row f o) (is_some o) ≡ true
all_same f None h = refl
all_same f (Some row) h = ap (λ (b : Bool). is_same b true) (true_is (truth f row) (h row refl))

all_pass : (f : Formula) (h : List ℕ → Option (List Cell)) (records : List (List ℕ)) → ((row : List Cell) → Contains (filter_map h records) row → truth f row ≡ True) → AllPass (λ line. is_same (matches_row f (h line)) (is_some (h line))) records
all_pass f h [] each k d below = absurd (omega arith)
all_pass f h (line ∷ lines) each zero d below = all_same f (h line) (λ row e. each row (contains_here (h line) (filter_map h lines) row e))
all_pass f h (line ∷ lines) each (suc k) d below = all_pass f h lines (λ row c. each row (contains_later (h line) (filter_map h lines) row c)) k d (omega arith)

-- where the statistics decide that none matches, none does
pub decided_none : IsOrder cell_order → KeysAreApart → ValuesHaveNoTyped → (cs : List ColumnType) (f : Formula) (h : List ℕ → Option (List Cell)) (bytes : List ℕ) (records : List (List ℕ)) → decision_of cs f bytes ≡ decisions.NoneMatch → AreDescribed cs (filter_map h records) bytes
    → AllPass (λ line. not (matches_row f (h line))) records
decided_none law apart untyped cs f h bytes records e described = none_pass f h records (no_row_matches law apart untyped cs f (filter_map h records) bytes (columns_in cs bytes) refl e described)

-- where they decide that each matches, each does that has a row
pub decided_all : IsOrder cell_order → KeysAreApart → ValuesHaveNoTyped → (cs : List ColumnType) (f : Formula) (h : List ℕ → Option (List Cell)) (bytes : List ℕ) (records : List (List ℕ)) → decision_of cs f bytes ≡ decisions.AllMatch → AreDescribed cs (filter_map h records) bytes
    → AllPass (λ line. is_same (matches_row f (h line)) (is_some (h line))) records
decided_all law apart untyped cs f h bytes records e described = all_pass f h records (each_row_matches law apart untyped cs f (filter_map h records) bytes (columns_in cs bytes) refl e described)
