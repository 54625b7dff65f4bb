-- The types of bounds stay.
use Rattle.std.proofs.Common.{◌≡◌, ◌≢◌, ◌<◌, ◌⊎◌, inl, inr, ◌∙◌, ℕ, List, Bool, true, false, Option, None, Some, IfSome, Ordering, is_some, cond, refl, sym, ap, subst, length, get_or, set, arith}
use Rattle.std.proofs.lemmas.Bool.{cases_eq}
use Rattle.std.proofs.lemmas.List.{get_or-set_other, get_or-set_same, get_or_default, length-set}
use Rattle.std.specs.declared.cmp.Ordering.TheVariants.{Equal, Greater, Less}
use Rattle.csv_records.specs.Rows.{Field}
use Rattle.record_rows.specs.Cells.{column_type}
use Rattle.record_rows.specs.Observed.{HasBoundsOf, HaveTypes, ObservesField}
use Rattle.record_rows.specs.Readings.{Reading}
use Rattle.record_rows.specs.declared.schema.ColumnType.{ColumnType}
use Rattle.vortex_cells.specs.Cells.{Cell, cell_order, is_null_cell, order_from_above}
use Rattle.vortex_dtype.specs.TypeTree.{TypeTree}
use Rattle.vortex_statistics.specs.Observing.{bound_after, bound_at, bound_with, is_below_some, observed, with_null, with_value}
use Rattle.vortex_statistics.specs.Statistics.{Known, KnownBound, known, may_be_value}
use Rattle.vortex_statistics.specs.declared.column_statistics.ColumnStatistics.{ColumnStatistics}

-- the bound is of this type, if there is one
abbrev IsOf : TypeTree → Option KnownBound → Type 0
IsOf t b = IfSome b (λ b. b.value.typed ≡ t)

either : {A : Type 0} (P : A → Type 0) (e : Bool) (a b : A) → P a → P b → P (cond e a b)
either P true a b h k = h
either P false a b h k = k

itself : (t : TypeTree) (x : Cell) → x.typed ≡ t → IsOf t (bound_at x)
itself t x is = either (IsOf t) (is_some (cell_order x x)) (Some (record { value = x; is_exact = true })) None is tt

with_bound : (t : TypeTree) (o : Option Ordering) (b : KnownBound) (x : Cell) → x.typed ≡ t → b.value.typed ≡ t → IsOf t (bound_with o b x)
with_bound t None b x is h = tt
with_bound t (Some Less) b x is h = h
with_bound t (Some Equal) b x is h = h
with_bound t (Some Greater) b x is h = itself t x is

after_cell : (t : TypeTree) (cmp : Cell → Cell → Option Ordering) (b : Option KnownBound) (x : Cell) → x.typed ≡ t → IsOf t b → IsOf t (bound_after cmp b x)
after_cell t cmp None x is h = tt
after_cell t cmp (Some b) x is h = with_bound t (cmp b.value x) b x is h

value_typed : (t : TypeTree) (s : Known) (x : Cell) → x.typed ≡ t → HasBoundsOf t s → HasBoundsOf t (with_value s x)
value_typed t s x is h =
    let above : IsOf t (cond (is_below_some s x) s.upper (bound_after order_from_above s.upper x)) = either (IsOf t) (is_below_some s x) s.upper (bound_after order_from_above s.upper x) h.upper (after_cell t order_from_above s.upper x is h.upper) in
    record {
      lower = either (IsOf t) (may_be_value s) (bound_after cell_order s.lower x) (bound_at x) (after_cell t cell_order s.lower x is h.lower) (itself t x is);
      upper = either (IsOf t) (may_be_value s) (cond (is_below_some s x) s.upper (bound_after order_from_above s.upper x)) (bound_at x) above (itself t x is);
    }

observed_typed : (t : TypeTree) (s : Known) (x : Cell) → x.typed ≡ t → HasBoundsOf t s → HasBoundsOf t (observed s x)
observed_typed t s x is h = either (HasBoundsOf t) (is_null_cell x) (with_null s) (with_value s x) (record { lower = h.lower; upper = h.upper }) (value_typed t s x is h)

field_typed : (reading : Reading) (column : ColumnType) (f : Field) (s t : Known) (flag : Bool) → ObservesField reading column f s t flag → HasBoundsOf (column_type column) s → HasBoundsOf (column_type column) t
field_typed reading column f s t flag h typed = subst (HasBoundsOf (column_type column)) (sym h.2.is) (observed_typed (column_type column) s (record { typed = column_type column; content = h.0 }) refl typed)

-- the statistics of one column observe its field, and all bounds are of the types of their columns still
pub types_stay : (reading : Reading) (columns : List ColumnType) (all : List ColumnStatistics) (i : ℕ) (column : ColumnType) (f : Field) (s t : ColumnStatistics) (flag : Bool) → i < length columns → i < length all → column ≡ get_or columns i column → s ≡ get_or all i s → ObservesField reading column f (known s) (known t) flag → HaveTypes columns all → HaveTypes columns (set all i t)
types_stay reading columns all i column f s t flag inside within is at observes types k c d below long = placed (cases_eq k i)
  where
    before : HasBoundsOf (column_type column) (known s)
    before = subst (λ (x : ColumnStatistics). HasBoundsOf (column_type column) (known x)) (sym at) (subst (λ (x : ColumnType). HasBoundsOf (column_type x) (known (get_or all i s))) (sym is) (types i column s inside within))

    placed : (k ≡ i) ⊎ (k ≢ i) → HasBoundsOf (column_type (get_or columns k c)) (known (get_or (set all i t) k d))
    placed (inl here) =
        let there : get_or columns k c ≡ column = ap (λ (n : ℕ). get_or columns n c) here ∙ get_or_default columns i c column inside ∙ sym is in
        let new : get_or (set all i t) k d ≡ t = ap (λ (n : ℕ). get_or (set all i t) n d) here ∙ get_or-set_same all i t d within in
        subst (λ (x : ColumnStatistics). HasBoundsOf (column_type (get_or columns k c)) (known x)) (sym new) (subst (λ (x : ColumnType). HasBoundsOf (column_type x) (known t)) (sym there) (field_typed reading column f (known s) (known t) flag observes before))
    placed (inr other) =
        subst (λ (x : ColumnStatistics). HasBoundsOf (column_type (get_or columns k c)) (known x)) (sym (get_or-set_other all i k t d other)) (types k c d below (omega (arith, long, length-set all i t)))
