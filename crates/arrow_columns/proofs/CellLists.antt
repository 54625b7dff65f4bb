-- Cells as a list, and by number.
use Rattle.std.proofs.Common.{◌≡◌, ◌≢◌, ◌∙◌, ◌||◌, ◌==◌, ℕ, ℤ, ◌+◌, ◌-◌, ◌<◌, ◌≤◌, ◌≤ℤ◌, add-one, add-zero, ap, arith, cond, length, map, refl, subst, sym, true, false, Bool, List, ◌∷◌, Option, Some, None, slice_get, suc, zero}
use Rattle.std.proofs.lemmas.Bool.{ne_eqb}
use Rattle.std.proofs.lemmas.List.FromFn.{get_or-map-range_with_len, length-map-range_with_len, sum_by-map-range_with_len_more}
use Rattle.std.proofs.lemmas.Option.{slice_get-get_or}
use Rattle.std.specs.List.{All, Contains, count_by, range_with_len}
use Rattle.std.specs.Option.{IfSome, IsNone, is_none}
use Rattle.arrow_columns.specs.Bitmaps.{bit_of, is_valid}
use Rattle.arrow_columns.specs.Cells.{cell_at}
use Rattle.arrow_columns.specs.Running.{IsGreatestBefore, IsLeastBefore, nulls_from}
use Rattle.arrow_columns.specs.Statistics.{AreStatisticsOf}

-- how many of so many cells pass a test
abbrev pub count_from : {X : Type 0} → (Option X → Bool) → (ℕ → Option X) → ℕ → ℕ → ℕ
count_from test cell from n = count_by test (map cell (range_with_len from n))

-- one more cell, which is known
pub count_more : {X : Type 0} (test : Option X → Bool) (cell : ℕ → Option X) (from i old new : ℕ) (o : Option X) → from ≤ i → cell i ≡ o
    → old ≡ count_from test cell from (i - from) → new ≡ old + cond (test o) 1 0 → new ≡ count_from test cell from (i + 1 - from)
count_more test cell from i old new o f v e w =
    let further : i - from + 1 ≡ i + 1 - from = omega arith in
    let more : count_from test cell from (i - from + 1) ≡ count_from test cell from (i - from) + cond (test (cell i)) 1 0 =
    sum_by-map-range_with_len_more (λ o. cond (test o) 1 0) cell from (i - from) i (omega arith) in
    w ∙ ap (λ n. n + cond (test o) 1 0) e ∙ ap (λ o. count_from test cell from (i - from) + cond (test o) 1 0) (sym v) ∙ sym more ∙ ap (count_from test cell from) further

-- where all cells are alike
nulls_more : {X : Type 0} (cell : ℕ → Option X) (from n : ℕ) → nulls_from cell from (suc n) ≡ nulls_from cell from n + cond (is_none (cell (from + n))) 1 0
nulls_more cell from n =
    ap (nulls_from cell from) (sym (add-one n)) ∙ sum_by-map-range_with_len_more (λ o. cond (is_none o) 1 0) cell from n (from + n) refl

pub no_nulls : {X : Type 0} (cell : ℕ → Option X) (from n : ℕ) → ((k : ℕ) → is_none (cell k) ≡ false) → 0 ≡ nulls_from cell from n
no_nulls cell from zero h = refl
no_nulls cell from (suc n) h =
    no_nulls cell from n h ∙ sym (nulls_more cell from n ∙ ap (λ b. nulls_from cell from n + cond b 1 0) (h (from + n)) ∙ add-zero _)

pub all_nulls : {X : Type 0} (cell : ℕ → Option X) (from n end : ℕ) → from + n ≡ end → ((k : ℕ) → k < end → from ≤ k → cell k ≡ None) → n ≡ nulls_from cell from n
all_nulls cell from zero end e h = refl
all_nulls cell from (suc n) end e h =
    omega (
      arith,
      all_nulls cell from n (from + n) refl (λ k l f. h k (omega arith) f),
      nulls_more cell from n ∙ ap (λ o. nulls_from cell from n + cond (is_none o) 1 0) (h (from + n) (omega arith) (omega arith)),
    )

-- what holds of each cell by its number holds of the list, and a cell stands in it
pub all_from : {X : Type 0} (P : Option X → Type 0) (cell : ℕ → Option X) (from n end : ℕ) → from + n ≡ end → ((k : ℕ) → k < end → from ≤ k → P (cell k)) → All P (map cell (range_with_len from n))
all_from P cell from n end e h = λ k d l.
    let s : k < n = omega (arith, l, length-map-range_with_len cell from n) in
    subst P (sym (get_or-map-range_with_len cell from n k (from + k) d s refl)) (h (from + k) (omega arith) (omega arith))

pub contains_from : {X : Type 0} (cell : ℕ → Option X) (from n end k : ℕ) (x : Option X) → from + n ≡ end → from ≤ k → k < end → cell k ≡ x → Contains (map cell (range_with_len from n)) x
contains_from cell from n end k x e f l v = (
  k - from,
  omega (arith, length-map-range_with_len cell from n),
  get_or-map-range_with_len cell from n (k - from) k x (omega arith) (omega arith) ∙ v,
)

-- cells that are alike one by one are alike as lists
pub cells_alike : {X : Type 0} (f g : ℕ → X) (from n : ℕ) → ((k : ℕ) → k < from + n → f k ≡ g k) → map f (range_with_len from n) ≡ map g (range_with_len from n)
cells_alike f g from zero h = refl
cells_alike f g from (suc n) h =
    ap (λ x. x ∷ map f (range_with_len (from + 1) n)) (h from (omega arith)) ∙ ap (λ xs. g from ∷ xs) (cells_alike f g (from + 1) n (λ k l. h k (omega arith)))

is_none_of : {X : Type 0} (o : Option X) → o ≡ None → IsNone o
is_none_of o e = subst IsNone (sym e) refl

pub all_none : {X : Type 0} (cell : ℕ → Option X) (from n end : ℕ) → from + n ≡ end → ((k : ℕ) → k < end → from ≤ k → cell k ≡ None) → All IsNone (map cell (range_with_len from n))
all_none cell from n end e h = all_from IsNone cell from n end e (λ k l f. is_none_of (cell k) (h k l f))

pub statistics_of_nulls : (cell : ℕ → Option ℤ) (from n end nulls : ℕ) → from + n ≡ end → nulls ≡ n
    → ((k : ℕ) → k < end → from ≤ k → cell k ≡ None)
    → AreStatisticsOf (map cell (range_with_len from n)) (record { null_count = nulls; extremes = None })
statistics_of_nulls cell from n end nulls e c h = record {
  nulls = c ∙ all_nulls cell from n end e h;
  extremes = all_none cell from n end e h;
}

-- the statistics that were gathered, where the numbers are equal to those that were kept
pub statistics_given : (cell : ℕ → Option ℤ) (from n end nulls : ℕ) (least greatest l g : ℤ) → from + n ≡ end → nulls ≡ nulls_from cell from n
    → l ≡ least → g ≡ greatest → IsLeastBefore cell from end least → IsGreatestBefore cell from end greatest
    → AreStatisticsOf (map cell (range_with_len from n)) (record { null_count = nulls; extremes = Some (record { least = l; greatest = g }) })
statistics_given cell from n end nulls least greatest l g e c p q low high =
    let low' = subst (IsLeastBefore cell from end) (sym p) low in
    let high' = subst (IsGreatestBefore cell from end) (sym q) high in record {
      nulls = c;
      extremes = (
        (contains_from cell from n end low'.among.0 (Some l) e low'.among.1 low'.among.2 low'.among.3, all_from (λ o. IfSome o (λ x. l ≤ℤ x)) cell from n end e low'.below),
        (contains_from cell from n end high'.among.0 (Some g) e high'.among.1 high'.among.2 high'.among.3, all_from (λ o. IfSome o (λ x. x ≤ℤ g)) cell from n end e high'.above),
      );
    }

-- a cell of which it is known whether it is null
pub valid_cell : {X : Type 0} (validity : List ℕ) (value : ℕ → X) (i : ℕ) (x : X) → is_valid validity i ≡ true → x ≡ value i → cell_at validity value i ≡ Some x
valid_cell validity value i x v e = ap (λ b. cond b (Some (value i)) None) v ∙ ap Some (sym e)

pub null_cell : {X : Type 0} (validity : List ℕ) (value : ℕ → X) (i : ℕ) → is_valid validity i ≡ false → cell_at validity value i ≡ None
null_cell validity value i v = ap (λ b. cond b (Some (value i)) None) v

pub valid_without : (validity : List ℕ) (i : ℕ) → length validity ≡ 0 → is_valid validity i ≡ true
valid_without validity i h = ap (λ n. (n == 0) || bit_of validity i) h

-- a row of a bitmap that there is
pub valid_or : (validity : List ℕ) (i : ℕ) {b : Bool} → length validity ≢ 0 → bit_of validity i ≡ b → is_valid validity i ≡ b
valid_or validity i h e = ap (λ t. t || bit_of validity i) (ne_eqb (length validity) 0 h) ∙ e

pub is_none_valid : {X : Type 0} (validity : List ℕ) (value : ℕ → X) (i : ℕ) → is_valid validity i ≡ true → is_none (cell_at validity value i) ≡ false
is_none_valid validity value i v = ap is_none (valid_cell validity value i (value i) v refl)

-- cells whose values are alike
pub values_alike : {X : Type 0} (validity : List ℕ) (f g : ℕ → X) (from n count m : ℕ) → n ≡ count → from + n ≤ m → ((k : ℕ) → k < m → f k ≡ g k)
    → map (cell_at validity f) (range_with_len from n) ≡ map (cell_at validity g) (range_with_len from count)
values_alike validity f g from n count m e l h =
    cells_alike (cell_at validity f) (cell_at validity g) from n (λ k b. ap (λ x. cond (is_valid validity k) (Some x) None) (h k (omega arith)))
    ∙ ap (λ c. map (cell_at validity g) (range_with_len from c)) e

-- the cell of a row
pub cell_got : {X : Type 0} (cell : ℕ → Option X) (from n row : ℕ) (o : Option X) → row < n → cell (from + row) ≡ o → slice_get (map cell (range_with_len from n)) row ≡ Some o
cell_got cell from n row o l e =
    slice_get-get_or (map cell (range_with_len from n)) row None (omega (arith, length-map-range_with_len cell from n))
    ∙ ap Some (get_or-map-range_with_len cell from n row (from + row) None l refl ∙ e)

-- a number that went through another
pub through_number : (l z w : ℤ) → l ≡ z → z ≡ w → l ≡ w
through_number l z w p q = p ∙ q
