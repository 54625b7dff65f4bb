-- The extremes of the values of each kind, as extremes of contents.
use Rattle.std.proofs.Common.{◌≡◌, ◌≢◌, ◌∙◌, inl, inr, ℕ, zero, suc, ℤ, ◌≤ℤ◌, ◌<ℤ◌, Bool, true, false, cond, List, [], ◌∷◌, map, get_or, slice_get, Option, Some, None, MatchOption, arith, ap, refl, subst, sym}
use Rattle.std.proofs.lemmas.Bool.{false≢true}
use Rattle.std.proofs.lemmas.Cmp.{by_ranked, int_cmp_total, int_ranked, nat_list_cmp_total, tied_itself}
use Rattle.std.proofs.lemmas.Int.{ints}
use Rattle.std.proofs.lemmas.List.Elements.{Contains-get_or}
use Rattle.std.proofs.lemmas.List.Sums.{sum_by-cons}
use Rattle.std.proofs.lemmas.Option.{slice_get-map}
use Rattle.std.specs.Cmp.Lexicographic.{slice_cmp}
use Rattle.std.specs.List.{All, Contains, count_by}
use Rattle.std.specs.Option.{IsNone, option_map}
use Rattle.std.specs.Ordering.{int_cmp, nat_cmp}
use Rattle.std.specs.declared.cmp.Ordering.{Ordering}
use Rattle.std.specs.declared.cmp.Ordering.TheVariants.{Less, Equal, Greater}
use Rattle.arrow_columns.specs.Columns.{integer_cells}
use Rattle.arrow_columns.specs.Statistics.{AreBooleanStatisticsOf, AreByteStatisticsOf, AreStatisticsOf, IsGreatestAt, IsGreatestOf, IsLeastAt, IsLeastOf, NotAbove, is_false_cell, is_true_cell}
use Rattle.arrow_columns.specs.declared.statistics.BooleanStatistics.{BooleanStatistics}
use Rattle.arrow_columns.specs.declared.statistics.ByteExtremes.{ByteExtremes}
use Rattle.arrow_columns.specs.declared.statistics.ByteStatistics.{ByteStatistics}
use Rattle.arrow_columns.specs.declared.columns.Column.{Column}
use Rattle.arrow_columns.specs.declared.kinds.IntegerKind.{IntegerKind}
use Rattle.arrow_columns.specs.declared.statistics.IntegerExtremes.{IntegerExtremes}
use Rattle.arrow_columns.specs.declared.statistics.IntegerStatistics.{IntegerStatistics}
use Rattle.column_cells.specs.Contents.{content_or_null}
use Rattle.vortex_cells.specs.Cells.{is_null_content}
use Rattle.vortex_value.specs.Order.{order, truth_cmp}
use Rattle.vortex_value.specs.Values.Content.{Content, null, string, text, truth, whole}
use Rattle.column_statistics.specs.Extremes.{AreExtremesAt, ArePlacesOf, IsExtreme, IsExtremeAt, IsGreatestTruth, IsLeastTruth, SaysUpTo, order_down}
use Rattle.column_statistics.proofs.ContentLaws.{all_null, contains_got, extreme_of, nulls_of, value_says}

-- ---- integers

pub upto_whole : (x y : ℤ) → x ≤ℤ y → SaysUpTo (Some (int_cmp x y))
upto_whole x y h =
    by_ranked (x <ℤ y) (x ≡ y) (y <ℤ x) (int_cmp x y) (int_ranked x y (int_cmp x y) refl)
    (λ e l. inl (ap Some e))
    (λ e l. inr (ap Some e))
    (λ e l. absurd (omega (arith, ints)))

pub least_whole : (cells : List (Option ℤ)) (x : ℤ) → IsLeastOf cells x → IsExtreme order (map (content_or_null whole) cells) (whole x)
least_whole cells x h =
    extreme_of whole (λ z. refl) order cells x h.0
    (λ y i. upto_whole x y (value_says (λ z. x ≤ℤ z) cells y h.1 i))
    (ap Some (tied_itself int_cmp_total x))

pub greatest_whole : (cells : List (Option ℤ)) (x : ℤ) → IsGreatestOf cells x → IsExtreme order_down (map (content_or_null whole) cells) (whole x)
greatest_whole cells x h =
    extreme_of whole (λ z. refl) order_down cells x h.0
    (λ y i. upto_whole y x (value_says (λ z. z ≤ℤ x) cells y h.1 i))
    (ap Some (tied_itself int_cmp_total x))

-- what the statistics of a column say, by whether there are extremes
pub extremes_are : (kind : IntegerKind) (column : Column) (s : IntegerStatistics) (e : IntegerExtremes) → AreStatisticsOf (integer_cells kind column) s → s.extremes ≡ Some e
    → IsLeastOf (integer_cells kind column) e.least × IsGreatestOf (integer_cells kind column) e.greatest
extremes_are kind column s e h is =
    let cells : List (Option ℤ) = integer_cells kind column in
    subst (λ o. MatchOption o (All IsNone cells) (λ e. IsLeastOf cells e.least × IsGreatestOf cells e.greatest)) is h.extremes

pub nulls_alone : (kind : IntegerKind) (column : Column) (s : IntegerStatistics) → AreStatisticsOf (integer_cells kind column) s → s.extremes ≡ None → All IsNone (integer_cells kind column)
nulls_alone kind column s h is =
    let cells : List (Option ℤ) = integer_cells kind column in
    subst (λ o. MatchOption o (All IsNone cells) (λ e. IsLeastOf cells e.least × IsGreatestOf cells e.greatest)) is h.extremes

-- ---- booleans

truth_itself : (b : Bool) → order (truth b) (truth b) ≡ Some Equal
truth_itself true = refl
truth_itself false = refl

pub least_truth : (cells : List (Option Bool)) (x : Bool) → IsLeastTruth cells x → IsExtreme order (map (content_or_null truth) cells) (truth x)
least_truth cells x h = extreme_of truth (λ z. refl) order cells x h.0 h.1 (truth_itself x)

pub greatest_truth : (cells : List (Option Bool)) (x : Bool) → IsGreatestTruth cells x → IsExtreme order_down (map (content_or_null truth) cells) (truth x)
greatest_truth cells x h = extreme_of truth (λ z. refl) order_down cells x h.0 h.1 (truth_itself x)

-- false is not above any, nor any above true
false_upto : (y : Bool) → SaysUpTo (Some (truth_cmp false y))
false_upto true = inl refl
false_upto false = inr refl

upto_true : (y : Bool) → SaysUpTo (Some (truth_cmp y true))
upto_true true = inr refl
upto_true false = inl refl

-- some cells pass a test if their number is not 0, and none if it is
weight : {X : Type 0} (test : X → Bool) (x : X) (b : Bool) → test x ≡ b → ◌≡◌ {A = ℕ} (cond (test x) 1 0) (cond b 1 0)
weight test x b e = ap (λ c. cond {A = ℕ} c 1 0) e

counted_some : {X : Type 0} (test : X → Bool) (xs : List X) → count_by test xs ≢ 0 → (x : X) × Contains xs x × (test x ≡ true)
counted_some test [] h = absurd (h refl)
counted_some {X} test (x ∷ xs) h = by_test (test x) refl (counted_some test xs)
  where
    by_test : (b : Bool) → test x ≡ b → (count_by test xs ≢ 0 → (y : X) × Contains xs y × (test y ≡ true)) → (y : X) × Contains (x ∷ xs) y × (test y ≡ true)
    by_test true e more = (x, (0, omega arith, refl), e)
    by_test false e more =
        let r = more (λ n. h (omega (arith, n, sum_by-cons (λ z. cond (test z) 1 0) x xs, weight test x false e))) in
        (r.0, (suc r.1.0, omega (arith, r.1.1), r.1.2), r.2)

counted_none : {X : Type 0} (test : X → Bool) (xs : List X) (x : X) → count_by test xs ≡ 0 → Contains xs x → test x ≡ false
counted_none test [] x h (k, l, e) = absurd (omega arith)
counted_none test (y ∷ xs) x h (zero, l, e) = ap test (sym e) ∙ by_test (test y) refl
  where
    by_test : (b : Bool) → test y ≡ b → test y ≡ false
    by_test false f = f
    by_test true f = absurd (omega (arith, h, sum_by-cons (λ z. cond (test z) 1 0) y xs, weight test y true f))
counted_none test (y ∷ xs) x h (suc k, l, e) = counted_none test xs x (omega (arith, h, sum_by-cons (λ z. cond (test z) 1 0) y xs)) (k, omega arith, e)

a_false : (cells : List (Option Bool)) → count_by is_false_cell cells ≢ 0 → Contains cells (Some false)
a_false cells h =
    let r = counted_some is_false_cell cells h in
    subst (Contains cells) (by_cell r.0 r.2) r.1
  where
    by_cell : (o : Option Bool) → is_false_cell o ≡ true → o ≡ Some false
    by_cell None e = absurd (false≢true e)
    by_cell (Some true) e = absurd (false≢true e)
    by_cell (Some false) e = refl

a_true : (cells : List (Option Bool)) → count_by is_true_cell cells ≢ 0 → Contains cells (Some true)
a_true cells h =
    let r = counted_some is_true_cell cells h in
    subst (Contains cells) (by_cell r.0 r.2) r.1
  where
    by_cell : (o : Option Bool) → is_true_cell o ≡ true → o ≡ Some true
    by_cell None e = absurd (false≢true e)
    by_cell (Some true) e = refl
    by_cell (Some false) e = absurd (false≢true e)

-- if no cell is false, true is not above any; and if none is true, false is not below any
true_upto : (cells : List (Option Bool)) (y : Bool) → count_by is_false_cell cells ≡ 0 → Contains cells (Some y) → SaysUpTo (Some (truth_cmp true y))
true_upto cells true h i = inr refl
true_upto cells false h i = absurd (false≢true (sym (counted_none is_false_cell cells (Some false) h i)))

upto_false : (cells : List (Option Bool)) (y : Bool) → count_by is_true_cell cells ≡ 0 → Contains cells (Some y) → SaysUpTo (Some (truth_cmp y false))
upto_false cells false h i = inr refl
upto_false cells true h i = absurd (false≢true (sym (counted_none is_true_cell cells (Some true) h i)))

-- if none is either, all are null
pub neither : (cells : List (Option Bool)) → count_by is_false_cell cells ≡ 0 → count_by is_true_cell cells ≡ 0 → All IsNone cells
neither cells h k = λ i d l. by_cell (get_or cells i d) (Contains-get_or cells i d l)
  where
    by_cell : (o : Option Bool) → Contains cells o → IsNone o
    by_cell None j = refl
    by_cell (Some false) j = absurd (false≢true (sym (counted_none is_false_cell cells (Some false) h j)))
    by_cell (Some true) j = absurd (false≢true (sym (counted_none is_true_cell cells (Some true) k j)))

module _ (cells : List (Option Bool)) (s : BooleanStatistics) (h : AreBooleanStatisticsOf cells s) where
  no_false : s.false_count ≡ 0 → count_by is_false_cell cells ≡ 0
  no_false e = sym h.falses ∙ e

  no_true : s.true_count ≡ 0 → count_by is_true_cell cells ≡ 0
  no_true e = sym h.trues ∙ e

  some_false : s.false_count ≢ 0 → Contains cells (Some false)
  some_false e = a_false cells (λ n. e (h.falses ∙ n))

  some_true : s.true_count ≢ 0 → Contains cells (Some true)
  some_true e = a_true cells (λ n. e (h.trues ∙ n))

  pub truths_none : s.false_count ≡ 0 → s.true_count ≡ 0 → All IsNone cells
  truths_none e f = neither cells (no_false e) (no_true f)

  pub truths_true : s.false_count ≡ 0 → s.true_count ≢ 0 → IsLeastTruth cells true × IsGreatestTruth cells true
  truths_true e f = ((some_true f, λ y i. true_upto cells y (no_false e) i), (some_true f, λ y i. upto_true y))

  pub truths_false : s.false_count ≢ 0 → s.true_count ≡ 0 → IsLeastTruth cells false × IsGreatestTruth cells false
  truths_false e f = ((some_false e, λ y i. false_upto y), (some_false e, λ y i. upto_false cells y (no_true f) i))

  pub truths_both : s.false_count ≢ 0 → s.true_count ≢ 0 → IsLeastTruth cells false × IsGreatestTruth cells true
  truths_both e f = ((some_false e, λ y i. false_upto y), (some_true f, λ y i. upto_true y))

-- ---- strings and bytes

not_greater : (o : Ordering) → o ≢ Greater → SaysUpTo (Some o)
not_greater Less h = inl refl
not_greater Equal h = inr refl
not_greater Greater h = absurd (h refl)

-- the content of such bytes: a string, or bytes
pub record IsOfBytes (content : List ℕ → Content) : Type 0 where
  pub value : (x : List ℕ) → is_null_content (content x) ≡ false
  pub ordered : (x y : List ℕ) → order (content x) (content y) ≡ Some (slice_cmp nat_cmp x y)

pub of_text : IsOfBytes text
of_text = record { value = λ x. refl; ordered = λ x y. refl }

pub of_string : IsOfBytes string
of_string = record { value = λ x. refl; ordered = λ x y. refl }

module _ (content : List ℕ → Content) (kind : IsOfBytes content) (cells : List (Option (List ℕ))) where
  upto_bytes : (x y : List ℕ) → NotAbove x y → SaysUpTo (order (content x) (content y))
  upto_bytes x y h = subst SaysUpTo (sym (kind.ordered x y)) (not_greater (slice_cmp nat_cmp x y) h)

  itself : (x : List ℕ) → order (content x) (content x) ≡ Some Equal
  itself x = kind.ordered x x ∙ ap Some (tied_itself nat_list_cmp_total x)

  stands : (row : ℕ) (x : List ℕ) → slice_get cells row ≡ Some (Some x) → slice_get (map (content_or_null content) cells) row ≡ Some (content x)
  stands row x e = slice_get-map (content_or_null content) cells row ∙ ap (option_map (content_or_null content)) e

  least_at : (row : ℕ) → IsLeastAt cells row → IsExtremeAt order (map (content_or_null content) cells) row
  least_at row h = record {
    content = content h.0;
    stands = stands row h.0 h.1;
    extreme = extreme_of content kind.value order cells h.0 (contains_got cells row (Some h.0) h.1)
        (λ y i. upto_bytes h.0 y (value_says (NotAbove h.0) cells y h.2 i)) (itself h.0);
  }

  greatest_at : (row : ℕ) → IsGreatestAt cells row → IsExtremeAt order_down (map (content_or_null content) cells) row
  greatest_at row h = record {
    content = content h.0;
    stands = stands row h.0 h.1;
    extreme = extreme_of content kind.value order_down cells h.0 (contains_got cells row (Some h.0) h.1)
        (λ y i. upto_bytes y h.0 (value_says (λ z. NotAbove z h.0) cells y h.2 i)) (itself h.0);
  }

  pub places_of : (s : ByteStatistics) → AreByteStatisticsOf cells s → ArePlacesOf (map (content_or_null content) cells) s
  places_of s h = record { nulls = h.nulls ∙ nulls_of content kind.value cells; extremes = by_extremes s.extremes h.extremes }
    where
      by_extremes : (e : Option ByteExtremes) → MatchOption e (All IsNone cells) (λ e. IsLeastAt cells e.least × IsGreatestAt cells e.greatest)
          → MatchOption e (All (λ c. c ≡ null) (map (content_or_null content) cells)) (AreExtremesAt (map (content_or_null content) cells))
      by_extremes None a = all_null content kind.value cells a
      by_extremes (Some e) p = record { least = least_at e.least p.0; greatest = greatest_at e.greatest p.1 }
