-- What statistics that are right for a zone, or leave all open, allow of each of its cells.
use Rattle.std.proofs.Common.{◌≡◌, ◌⊎◌, inl, inr, ℕ, zero, suc, ◌<◌, ◌≤◌, Bool, true, false, cond, List, [], ◌∷◌, length, get_or, slice_get, count_by, Contains, Option, Some, None, IfSome, Ordering, refl, sym, ap, ◌∙◌, arith}
use Rattle.std.proofs.lemmas.Bool.{false≢true, lt-ltb}
use Rattle.std.proofs.lemmas.Bool.Decides.{nat_tests}
use Rattle.std.proofs.lemmas.List.{get_or-map, length-map}
use Rattle.std.proofs.lemmas.List.Sums.{count_by-le-length, get_or-le-sum_by, sum_by-cons}
use Rattle.vortex_cells.specs.Cells.{Cell, HasValue, IsUpTo, cell_order, is_null_cell, order_from_above}
use Rattle.vortex_statistics.specs.Statistics.{AreRight, IsBound, Known, KnownBound, some_null, some_value}
use Rattle.filter_pruning.specs.Exactness.{Admits}
use Rattle.vortex_filter.specs.Formula.{cell_at}
use Rattle.filter_pruning.specs.Pruning.{AreOpen, AreStatisticsOf, column}

-- ---- counts

weight-true : (b : Bool) → b ≡ true → 1 ≤ cond b 1 0
weight-true true e = omega arith
weight-true false e = absurd (false≢true e)

weight-false : (b : Bool) → b ≡ false → cond b 1 0 ≤ 0
weight-false true e = absurd (false≢true (sym e))
weight-false false e = omega arith

weight-most : (b : Bool) → cond b 1 0 ≤ 1
weight-most true = omega arith
weight-most false = omega arith

-- what passes the test is counted
counted : {X : Type 0} (p : X → Bool) (xs : List X) (k : ℕ) (x : X) → k < length xs → get_or xs k x ≡ x → p x ≡ true → 0 < count_by p xs
counted p xs k x h e f =
    omega (arith, weight-true (p (get_or xs k x)) (ap p e ∙ f), get_or-le-sum_by (λ y. cond (p y) 1 0) xs k x h)

-- and if one does not pass, not all are counted
not_counted : {X : Type 0} (p : X → Bool) (xs : List X) (k : ℕ) (x : X) → k < length xs → get_or xs k x ≡ x → p x ≡ false → count_by p xs < length xs
not_counted p [] k x h e f = absurd (omega arith)
not_counted p (y ∷ ys) zero x h e f =
    omega (arith, sum_by-cons (λ z. cond (p z) 1 0) y ys, weight-false (p y) (ap p e ∙ f), count_by-le-length p ys)
not_counted p (y ∷ ys) (suc k) x h e f =
    omega (arith, sum_by-cons (λ z. cond (p z) 1 0) y ys, weight-most (p y), not_counted p ys k x (omega arith) e f)

-- what is counted stands there
pub stands_there : {X : Type 0} (p : X → Bool) (xs : List X) → 0 < count_by p xs → (x : X) × Contains xs x × (p x ≡ true)
stands_there p [] h = absurd (omega (arith, h))
stands_there {X} p (y ∷ ys) h = by_test (p y) refl (stands_there p ys)
  where
    by_test : (b : Bool) → p y ≡ b → (0 < count_by p ys → (x : X) × Contains ys x × (p x ≡ true)) → (x : X) × Contains (y ∷ ys) x × (p x ≡ true)
    by_test true e below = (y, (0, omega arith, refl), e)
    by_test false e below =
        let w = below (omega (arith, h, sum_by-cons (λ z. cond (p z) 1 0) y ys, weight-false (p y) e)) in
        (w.0, (suc w.1.0, omega (arith, w.1.1), w.1.2), w.2)

-- ---- the counts of right statistics

null_known : (rows : ℕ) (nulls : Option ℕ) (cells : List Cell) (x : Cell)
    → rows ≡ length cells → IfSome nulls (λ n. n ≡ count_by is_null_cell cells) → Contains cells x → is_null_cell x ≡ true → some_null rows nulls ≡ true
null_known rows None cells x r n c f = let some : 0 < rows = omega (arith, c.1) in grind (arith, nat_tests)
null_known rows (Some m) cells x r n c f =
    let some : 0 < m = omega (arith, counted is_null_cell cells c.0 x c.1 c.2 f) in
    grind (arith, nat_tests)

value_known : (rows : ℕ) (nulls : Option ℕ) (cells : List Cell) (x : Cell)
    → rows ≡ length cells → IfSome nulls (λ n. n ≡ count_by is_null_cell cells) → Contains cells x → is_null_cell x ≡ false → some_value rows nulls ≡ true
value_known rows None cells x r n c f = let some : 0 < rows = omega (arith, c.1) in grind (arith, nat_tests)
value_known rows (Some m) cells x r n c f =
    let some : m < rows = omega (arith, not_counted is_null_cell cells c.0 x c.1 c.2 f) in
    grind (arith, nat_tests)

-- ---- the bounds of right statistics

bound_known : (cmp : Cell → Cell → Option Ordering) (bound : Option KnownBound) (cells : List Cell) (x : Cell)
    → IfSome bound (λ b. IsBound cmp b cells) → HasValue cells x → IfSome bound (λ b. IsUpTo cmp b.value x)
bound_known cmp None cells x h v = tt
bound_known cmp (Some b) cells x h v = h.bounds x v

-- ---- a cell of a zone

pub right_admits : (s : Known) (cells : List Cell) (x : Cell) → AreRight s cells → Contains cells x → Admits s x
right_admits s cells x right c = record {
  null = null_known s.row_count s.null_count cells x right.rows right.nulls c;
  value = value_known s.row_count s.null_count cells x right.rows right.nulls c;
  within = λ v.
      let has : HasValue cells x = record { cell = c; value = v } in
      record { from = bound_known _ s.lower cells x right.lower has; to = bound_known _ s.upper cells x right.upper has };
}

-- ---- statistics that leave all open

open_null : (rows : ℕ) (nulls : Option ℕ) → 0 < rows → nulls ≡ None → some_null rows nulls ≡ true
open_null rows None some e = lt-ltb 0 rows some
open_null rows (Some n) some e = absurd cc

open_value : (rows : ℕ) (nulls : Option ℕ) → 0 < rows → nulls ≡ None → some_value rows nulls ≡ true
open_value rows None some e = lt-ltb 0 rows some
open_value rows (Some n) some e = absurd cc

no_bound : (cmp : Cell → Cell → Option Ordering) (bound : Option KnownBound) (x : Cell) → bound ≡ None → IfSome bound (λ b. IsUpTo cmp b.value x)
no_bound cmp None x e = tt
no_bound cmp (Some b) x e = absurd cc

open_admits : (s : Known) (x : Cell) → AreOpen s → Admits s x
open_admits s x h = record {
  null = λ e. open_null s.row_count s.null_count h.rows h.nulls;
  value = λ e. open_value s.row_count s.null_count h.rows h.nulls;
  within = λ e. record { from = no_bound cell_order s.lower x h.lower; to = no_bound order_from_above s.upper x h.upper };
}

known_admits : (s : Known) (cells : List Cell) (x : Cell) → AreOpen s ⊎ AreRight s cells → Contains cells x → Admits s x
known_admits s cells x (inl h) c = open_admits s x h
known_admits s cells x (inr h) c = right_admits s cells x h c

-- ---- a row

-- the cell of a row is one of its column's
cell_of_row : (rows : List (List Cell)) (row : List Cell) (k : ℕ) → Contains rows row → Contains (column k rows) (cell_at row k)
cell_of_row rows row k c = (
  c.0,
  omega (arith, length-map rows (λ (r : List Cell). cell_at r k), c.1),
  get_or-map (λ (r : List Cell). cell_at r k) rows c.0 row (cell_at row k) c.1 ∙ ap (λ (r : List Cell). cell_at r k) c.2,
)

pub row_admits : (statistics : List Known) (rows : List (List Cell)) → AreStatisticsOf statistics rows → (row : List Cell) → Contains rows row
    → (k : ℕ) (s : Known) → slice_get statistics k ≡ Some s → Admits s (cell_at row k)
row_admits statistics rows right row c k s e = known_admits s (column k rows) (cell_at row k) (right k s e) (cell_of_row rows row k c)
