-- The rows of the least and of the greatest string, one more cell at a time.
use Rattle.std.proofs.Common.{◌≡◌, ◌≢◌, ◌∙◌, ℕ, ◌+◌, ◌-◌, ◌<◌, ◌≤◌, Bool, true, false, List, refl, sym, subst, ap, arith, nat_cmp, Ordering, Less, Equal, Greater, below_more, length, map, Option, Some, None, slice_get}
use Rattle.std.proofs.lemmas.Cmp.{nat_list_cmp_total, tied_itself, upto}
use Rattle.std.proofs.lemmas.List.FromFn.{get_or-map-range_with_len, length-map-range_with_len}
use Rattle.std.proofs.lemmas.Option.{slice_get-get_or}
use Rattle.std.specs.Cmp.Lexicographic.{slice_cmp}
use Rattle.std.specs.List.{range_with_len}
use Rattle.std.specs.Option.{IfSome}
use Rattle.std.specs.Ordering.{is_lt, is_gt, ordering_reverse}
use Rattle.arrow_columns.specs.Running.{IsBestAt, nulls_from}
use Rattle.arrow_columns.specs.Statistics.{AreByteStatisticsOf, NotAbove}
use Rattle.arrow_columns.proofs.CellLists.{all_from, all_none, all_nulls}
use Rattle.arrow_columns.proofs.RowSteps.{at_null, at_value, some_says}

abbrev order : List ℕ → List ℕ → Ordering
order x y = slice_cmp nat_cmp x y

not_greater : (o : Ordering) → o ≢ Greater → is_gt o ≡ false
not_greater Less h = refl
not_greater Equal h = refl
not_greater Greater h = absurd (h refl)

is_not_greater : (o : Ordering) → is_gt o ≡ false → o ≢ Greater
is_not_greater Less h = λ e. cc
is_not_greater Equal h = λ e. cc
is_not_greater Greater h = λ e. cc

less_is_not_greater : (o : Ordering) → is_lt o ≡ true → o ≢ Greater
less_is_not_greater Less h = λ e. cc
less_is_not_greater Equal h = λ e. cc
less_is_not_greater Greater h = λ e. cc

turned : (o : Ordering) → is_lt o ≡ false → ordering_reverse o ≢ Greater
turned Less h = λ e. cc
turned Equal h = λ e. cc
turned Greater h = λ e. cc

itself : (x : List ℕ) → NotAbove x x
itself x = λ e. let s : order x x ≡ Equal = tied_itself nat_list_cmp_total x in cc

pub goes_on : (x y z : List ℕ) → NotAbove x y → NotAbove y z → NotAbove x z
goes_on x y z h k = is_not_greater (order x z) (upto nat_list_cmp_total x y z (not_greater (order x y) h) (not_greater (order y z) k))

back : (x y : List ℕ) → ordering_reverse (order y x) ≢ Greater → NotAbove x y
back x y h = subst (λ o. o ≢ Greater) (sym (nat_list_cmp_total.antisymm x y)) h

-- what the test of two slices says of the values that they hold
pub below_says : (x y v w : List ℕ) (b : Bool) → b ≡ is_lt (slice_cmp nat_cmp x y) → x ≡ v → y ≡ w → b ≡ true → NotAbove v w
below_says x y v w b e p q t = subst (λ z. NotAbove z w) p (subst (NotAbove x) q (less_is_not_greater (order x y) (sym e ∙ t)))

pub not_below_says : (x y v w : List ℕ) (b : Bool) → b ≡ is_lt (slice_cmp nat_cmp x y) → x ≡ v → y ≡ w → b ≡ false → NotAbove w v
not_below_says x y v w b e p q t = subst (NotAbove w) p (subst (λ z. NotAbove z x) q (back y x (turned (order x y) (sym e ∙ t))))

if_some : (P Q : List ℕ → Type 0) (o : Option (List ℕ)) → ((y : List ℕ) → P y → Q y) → IfSome o P → IfSome o Q
if_some P Q (Some y) f h = f y h
if_some P Q None f h = tt

-- the relation goes on, and holds of a value and itself
pub record Ranks (R : List ℕ → List ℕ → Type 0) : Type 0 where
  pub same : (x : List ℕ) → R x x
  pub on : (x y z : List ℕ) → R x y → R y z → R x z

pub upward : Ranks NotAbove
upward = record { same = itself; on = goes_on }

pub downward : Ranks (λ x y. NotAbove y x)
downward = record { same = itself; on = λ x y z h k. goes_on z y x k h }

-- the first row that is no null
pub best_first : (R : List ℕ → List ℕ → Type 0) → Ranks R → (cell : ℕ → Option (List ℕ)) (value : ℕ → List ℕ) (from i : ℕ) → from ≤ i → cell i ≡ Some (value i)
    → ((k : ℕ) → k < i → from ≤ k → cell k ≡ None) → IsBestAt R cell value from (i + 1) i
best_first R r cell value from i f e n = record {
  from' = f;
  before = omega arith;
  is = e;
  best = below_more _ _ (λ k l g. at_null (R (value i)) (cell k) (n k l g)) (λ g. at_value (R (value i)) (cell i) (value i) e (r.same (value i)));
}

-- the best so far is better than that of any row before
pub best_is : (R : List ℕ → List ℕ → Type 0) (cell : ℕ → Option (List ℕ)) (value : ℕ → List ℕ) (from i b k : ℕ) → IsBestAt R cell value from i b → from ≤ k → k < i → cell k ≡ Some (value k) → R (value b) (value k)
best_is R cell value from i b k s f l e = some_says (R (value b)) (cell k) (value k) e (s.best k l f)

-- one more row, which is better
pub best_new : (R : List ℕ → List ℕ → Type 0) → Ranks R → (cell : ℕ → Option (List ℕ)) (value : ℕ → List ℕ) (from i old new : ℕ) → IsBestAt R cell value from i old → from ≤ i → cell i ≡ Some (value i)
    → R (value i) (value old) → new ≡ i → IsBestAt R cell value from (i + 1) new
best_new R r cell value from i old new s f e h q = subst (IsBestAt R cell value from (i + 1)) (sym q) (record {
  from' = f;
  before = omega arith;
  is = e;
  best = below_more _ _ (λ k l g. if_some (R (value old)) (R (value i)) (cell k) (λ y w. r.on (value i) (value old) y h w) (s.best k l g))
      (λ g. at_value (R (value i)) (cell i) (value i) e (r.same (value i)));
})

-- one that is not
pub best_past : (R : List ℕ → List ℕ → Type 0) (cell : ℕ → Option (List ℕ)) (value : ℕ → List ℕ) (from i old new : ℕ) → IsBestAt R cell value from i old → cell i ≡ Some (value i)
    → R (value old) (value i) → new ≡ old → IsBestAt R cell value from (i + 1) new
best_past R cell value from i old new s e h q = subst (IsBestAt R cell value from (i + 1)) (sym q) (record {
  from' = s.from';
  before = omega (arith, s.before);
  is = s.is;
  best = below_more _ _ s.best (λ g. at_value (R (value old)) (cell i) (value i) e h);
})

-- a null
pub best_kept : (R : List ℕ → List ℕ → Type 0) (cell : ℕ → Option (List ℕ)) (value : ℕ → List ℕ) (from i old new : ℕ) → IsBestAt R cell value from i old → cell i ≡ None → new ≡ old
    → IsBestAt R cell value from (i + 1) new
best_kept R cell value from i old new s v q = subst (IsBestAt R cell value from (i + 1)) (sym q) (record {
  from' = s.from';
  before = omega (arith, s.before);
  is = s.is;
  best = below_more _ _ s.best (λ g. at_null (R (value old)) (cell i) v);
})

at_row : (cell : ℕ → Option (List ℕ)) (from n end b : ℕ) (x : List ℕ) → from + n ≡ end → from ≤ b → b < end → cell b ≡ Some x
    → slice_get (map cell (range_with_len from n)) (b - from) ≡ Some (Some x)
at_row cell from n end b x e f l v =
    let within : b - from < length (map cell (range_with_len from n)) = omega (arith, length-map-range_with_len cell from n) in
    slice_get-get_or (map cell (range_with_len from n)) (b - from) None within
    ∙ ap Some (get_or-map-range_with_len cell from n (b - from) b None (omega arith) (omega arith) ∙ v)

pub byte_statistics_given : (cell : ℕ → Option (List ℕ)) (value : ℕ → List ℕ) (from n end nulls least greatest : ℕ) → from + n ≡ end → nulls ≡ nulls_from cell from n
    → IsBestAt NotAbove cell value from end least → IsBestAt (λ x y. NotAbove y x) cell value from end greatest
    → AreByteStatisticsOf (map cell (range_with_len from n)) (record { null_count = nulls; extremes = Some (record { least = least - from; greatest = greatest - from }) })
byte_statistics_given cell value from n end nulls least greatest e c l g = record {
  nulls = c;
  extremes = (
    (
      value least,
      at_row cell from n end least (value least) e l.from' l.before l.is,
      all_from (λ o. IfSome o (NotAbove (value least))) cell from n end e l.best,
    ),
    (
      value greatest,
      at_row cell from n end greatest (value greatest) e g.from' g.before g.is,
      all_from (λ o. IfSome o (λ y. NotAbove y (value greatest))) cell from n end e g.best,
    ),
  );
}

pub byte_statistics_of_nulls : (cell : ℕ → Option (List ℕ)) (from n end nulls : ℕ) → from + n ≡ end → nulls ≡ n → ((k : ℕ) → k < end → from ≤ k → cell k ≡ None)
    → AreByteStatisticsOf (map cell (range_with_len from n)) (record { null_count = nulls; extremes = None })
byte_statistics_of_nulls cell from n end nulls e c h = record {
  nulls = c ∙ all_nulls cell from n end e h;
  extremes = all_none cell from n end e h;
}
