-- What is known of a cell that repeats, observed one after the other.
use Rattle.std.proofs.Common.{◌≡◌, ℕ, zero, suc, ◌+◌, ◌<◌, ◌^◌, Bool, true, false, ◌&&◌, if◌then◌else◌, nat_lt, [], ◌∷◌, fold, replicate, Option, Some, None, is_some, Ordering, Equal, refl, sym, ap, ◌∙◌, arith}
use Rattle.std.proofs.Math.Numerals.{suc-eq-add-one}
use Rattle.std.proofs.lemmas.Bool.{false≢true, lt-ltb}
use Rattle.std.proofs.lemmas.Grind.{replicate_next}
use Rattle.std.proofs.lemmas.List.Sums.{fold-append}
use Rattle.std.specs.Ordering.{is_gt, is_some_and}
use Rattle.vortex_value.specs.Order.{IsReversed, IsTransitive, order}
use Rattle.vortex_value.specs.Values.Content.{content}
use Rattle.vortex_value.specs.Values.RawTree.{RawTree, is_absent}
use Rattle.vortex_cells.specs.Cells.{Cell, cell_order, is_null_cell, is_null_content, order_from_above}
use Rattle.vortex_statistics.specs.Changes.{after, replacing}
use Rattle.vortex_statistics.specs.Merging.{nothing}
use Rattle.vortex_statistics.specs.Observing.{bound_after, bound_at, bound_with, is_exact_bound, is_new_bound, observed, with_null, with_value}
use Rattle.vortex_statistics.specs.Statistics.{Known, KnownBound}
use Rattle.vortex_statistics.specs.declared.observing.Change.{Change}
use Rattle.vortex_cells.proofs.CellLaws.{equal_itself, from_above, from_below}
use Rattle.vortex_statistics.proofs.ObserveSteps.{made_after, null_content}

-- what is known of n of these cells
abbrev repeated : ℕ → Cell → Known
repeated n x = fold observed nothing (replicate n x)

repeated-next : (n : ℕ) (x : Cell) → repeated (suc n) x ≡ observed (repeated n x) x
repeated-next n x =
    ap (λ k. repeated k x) (suc-eq-add-one n) ∙ ap (fold observed nothing) (replicate_next n x) ∙ fold-append observed nothing (replicate n x) (x ∷ [])

null_observed : (s : Known) (x : Cell) → is_null_cell x ≡ true → observed s x ≡ with_null s
null_observed s x e = by_null (is_null_cell x) e
  where
    by_null : (b : Bool) → b ≡ true → (if b then with_null s else with_value s x) ≡ with_null s
    by_null true h = refl
    by_null false h = absurd (false≢true h)

value_observed : (s : Known) (x : Cell) → is_null_cell x ≡ false → observed s x ≡ with_value s x
value_observed s x e = by_null (is_null_cell x) e
  where
    by_null : (b : Bool) → b ≡ false → (if b then with_null s else with_value s x) ≡ with_value s x
    by_null true h = absurd (false≢true (sym h))
    by_null false h = refl

-- ---- nulls

abbrev pub nulls_known : ℕ → Known
nulls_known n = record { row_count = n; null_count = Some n; lower = None; upper = None }

null_more : (n : ℕ) → n + 1 < 2 ^ 64 → with_null (nulls_known n) ≡ nulls_known (n + 1)
null_more n fits = by_test (nat_lt (n + 1) (2 ^ 64)) (lt-ltb (n + 1) (2 ^ 64) fits)
  where
    by_test : (b : Bool) → b ≡ true → (let k : Known = record { row_count = n + 1; null_count = if b then Some (n + 1) else None; lower = None; upper = None } in k) ≡ nulls_known (n + 1)
    by_test true e = refl
    by_test false e = absurd (false≢true e)

pub null_repeated : (n : ℕ) (x : Cell) → is_null_cell x ≡ true → n < 2 ^ 64 → repeated n x ≡ nulls_known n
null_repeated zero x void fits = refl
null_repeated (suc n) x void fits =
    repeated-next n x ∙ ap (λ s. observed s x) (null_repeated n x void (omega (arith, fits))) ∙ null_observed (nulls_known n) x void
    ∙ null_more n (omega (arith, fits)) ∙ ap nulls_known (sym (suc-eq-add-one n))

-- ---- values

abbrev pub values_known : ℕ → Cell → Known
values_known n x = record { row_count = n; null_count = Some 0; lower = bound_at x; upper = bound_at x }

-- the bound stays, if the value is equal to itself
stays : (cmp : Cell → Cell → Option Ordering) (x : Cell) → (is_some (cell_order x x) ≡ true → cmp x x ≡ Some Equal) → bound_after cmp (bound_at x) x ≡ bound_at x
stays cmp x itself = by_test (is_some (cell_order x x)) refl
  where
    by_test : (b : Bool) → is_some (cell_order x x) ≡ b
        → bound_after cmp (if b then Some (record { value = x; is_exact = true }) else None) x ≡ (if b then Some (record { value = x; is_exact = true }) else None)
    by_test false e = refl
    by_test true e = let b : KnownBound = record { value = x; is_exact = true } in ap (λ o. bound_with o b x) (itself e)

-- it is not below itself
not_below : (x : Cell) → (is_some (cell_order x x) ≡ true → cell_order x x ≡ Some Equal) → (is_exact_bound (bound_at x) && is_new_bound cell_order (bound_at x) x) ≡ false
not_below x itself = by_test (is_some (cell_order x x)) refl
  where
    by_test : (b : Bool) → is_some (cell_order x x) ≡ b
        → (is_exact_bound (if b then Some (record { value = x; is_exact = true }) else None) && is_new_bound cell_order (if b then Some (record { value = x; is_exact = true }) else None) x) ≡ false
    by_test false e = refl
    by_test true e = ap (λ o. is_some_and is_gt o && is_some o) (itself e)

module _ (rev : IsReversed order) (trans : IsTransitive order) (x : Cell) (valued : is_null_cell x ≡ false) where
  below : is_some (cell_order x x) ≡ true → cell_order x x ≡ Some Equal
  below e = equal_itself cell_order (from_below rev trans) x e

  above : is_some (cell_order x x) ≡ true → order_from_above x x ≡ Some Equal
  above e = equal_itself order_from_above (from_above (from_below rev trans)) x e

  bounded : (n : ℕ) (p q : Bool) → p ≡ true → q ≡ false
      → (let k : Known = record {
        row_count = n;
        null_count = Some 0;
        lower = if p then bound_after cell_order (bound_at x) x else bound_at x;
        upper = if p then (if q then bound_at x else bound_after order_from_above (bound_at x) x) else bound_at x;
      } in k) ≡ values_known n x
  bounded n false q e f = absurd (false≢true e)
  bounded n true true e f = absurd (false≢true (sym f))
  bounded n true false e f =
      let with_bounds : Option KnownBound → Option KnownBound → Known = λ l u. record { row_count = n; null_count = Some 0; lower = l; upper = u } in
      ap (λ l. with_bounds l (bound_after order_from_above (bound_at x) x)) (stays cell_order x below) ∙ ap (with_bounds (bound_at x)) (stays order_from_above x above)

  value_more : (n : ℕ) → with_value (values_known (suc n) x) x ≡ values_known (suc n + 1) x
  value_more n = bounded (suc n + 1) (nat_lt 0 (suc n)) (is_exact_bound (bound_at x) && is_new_bound cell_order (bound_at x) x) (lt-ltb 0 (suc n) (omega arith)) (not_below x below)

  pub value_repeated : (n : ℕ) → repeated (suc n) x ≡ values_known (suc n) x
  value_repeated zero = repeated-next zero x ∙ value_observed nothing x valued
  value_repeated (suc n) =
      repeated-next (suc n) x ∙ ap (λ s. observed s x) (value_repeated n) ∙ value_observed (values_known (suc n) x) x valued
      ∙ value_more n ∙ ap (λ k. values_known k x) (sym (suc-eq-add-one (suc n)))

-- ---- what the code makes

value_at : IsReversed order → IsTransitive order → (n : ℕ) (x : Cell) → is_null_cell x ≡ false → 0 < n → values_known n x ≡ repeated n x
value_at rev trans zero x valued some = absurd (omega (arith, some))
value_at rev trans (suc n) x valued some = sym (value_repeated rev trans x valued n)

-- of a value that repeats
pub known_values : IsReversed order → IsTransitive order → (n : ℕ) (x : Cell) (v : RawTree) (change : Change) (rows : ℕ) (nulls : Option ℕ) (lower upper : Option KnownBound) → is_absent v ≡ false → x.content ≡ content v → 0 < n
    → change ≡ replacing x → rows ≡ n → nulls ≡ Some 0 → lower ≡ after change None x → upper ≡ after change None x
    → record { row_count = rows; null_count = nulls; lower = lower; upper = upper } ≡ repeated n x
known_values rev trans n x v change rows nulls lower upper e f some r k m l u =
    let valued : is_null_cell x ≡ false = ap is_null_content f ∙ null_content v ∙ e in
    let first : lower ≡ bound_at x = l ∙ ap (λ c. after c None x) r ∙ made_after None x in
    let second : upper ≡ bound_at x = u ∙ ap (λ c. after c None x) r ∙ made_after None x in
    let with_rows : ℕ → Known = λ i. record { row_count = i; null_count = nulls; lower = lower; upper = upper } in
    let with_nulls : Option ℕ → Known = λ i. record { row_count = n; null_count = i; lower = lower; upper = upper } in
    let with_lower : Option KnownBound → Known = λ b. record { row_count = n; null_count = Some 0; lower = b; upper = upper } in
    let with_upper : Option KnownBound → Known = λ b. record { row_count = n; null_count = Some 0; lower = bound_at x; upper = b } in
    ap with_rows k ∙ ap with_nulls m ∙ ap with_lower first ∙ ap with_upper second ∙ value_at rev trans n x valued some

-- of a null that repeats
pub known_nulls : (n : ℕ) (x : Cell) (v : RawTree) → is_absent v ≡ true → x.content ≡ content v → n < 2 ^ 64 → nulls_known n ≡ repeated n x
known_nulls n x v e f fits = sym (null_repeated n x (ap is_null_content f ∙ null_content v ∙ e) fits)
