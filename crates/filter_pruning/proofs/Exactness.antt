-- Each outcome of a comparison is its truth on a cell that the statistics allow.
use Rattle.std.proofs.Common.{◌≡◌, ◌⊎◌, inl, inr, Bool, true, false, not, ◌&&◌, ◌||◌, cond, Option, Some, None, is_some, is_none, subst, Ordering, Less, Equal, Greater, refl, sym, ap, ◌∙◌}
use Rattle.std.proofs.lemmas.Bool.{false≢true}
use Rattle.vortex_cells.specs.Cells.{Cell, IsUpTo, cell_or_null, cell_order, is_null_cell, order_from_above}
use Rattle.vortex_statistics.specs.Statistics.{Known, KnownBound, may_be_null, may_be_value}
use Rattle.vortex_cells.proofs.CellLaws.{IsOrder, equal_itself, turned}
use Rattle.vortex_filter.specs.declared.operator.CompareOperator.{CompareOperator}
use Rattle.filter_pruning.specs.declared.orders.Orders.{Orders}
use Rattle.vortex_filter.specs.declared.truth.Truth.{Truth}
use Rattle.vortex_filter.specs.declared.truth.Truth.TheVariants.{False, Unknown, True}
use Rattle.filter_pruning.specs.Exactness.{Admits, ArePlainBounds, ComparisonsAreExact, IsPlainRange, IsWithin, OnSomeCell}
use Rattle.vortex_filter.specs.Formula.{compare_truth, order_truth}
use Rattle.vortex_filter.specs.Operators.{holds}
use Rattle.filter_pruning.specs.Orders.{bound_order, includes, orders, orders_by, rules_out, settles}
use Rattle.filter_pruning.specs.OutcomeSets.{allows}
use Rattle.filter_pruning.specs.Outcomes.{compare_outcomes, unknown_outcomes, value_outcomes}
use Rattle.vortex_filter.specs.Truths.{truth_of}
use Rattle.filter_pruning.proofs.Bounds.{some_of_up}
use Rattle.filter_pruning.proofs.Plain.{cells_compare, plain_value}
use Rattle.filter_pruning.proofs.Soundness.{comparison_allowed, null_literal}
use Rattle.filter_pruning.proofs.Tests.{and_false, and_parts, is_some-reversed, less_left, none_left, not_or, not_true, or_cases, or_false, some_of_not_none, up_left}

-- ---- the values that stand to the literal in each of the orders

-- a value between the bounds that stands so to the literal
record Taken (lower upper : Option KnownBound) (literal : Cell) (o : Option Ordering) : Type 0 where
  value : Cell
  is_value : is_null_cell value ≡ false
  within : IsWithin lower upper value
  stands : cell_order value literal ≡ o

-- both bounds compare with the literal, if they have no parts and none rules it out
pub both_known : (l u : KnownBound) (o p : Option Ordering) → IsPlainRange l u → (rules_out (Some l) o || rules_out (Some u) p) ≡ false → (is_none o ≡ false) × (is_none p ≡ false)
both_known l u o p r e =
    let q = or_false (rules_out (Some l) o) (rules_out (Some u) p) e in
    (and_false _ _ r.plain_lower q.0, and_false _ _ r.plain_upper q.1)

module _ (law : IsOrder cell_order) where
  up_back : (x y : Cell) → IsUpTo cell_order x y → is_some (cell_order y x) ≡ true
  up_back x y h = ap is_some (law.turns y x) ∙ is_some-reversed (cell_order x y) ∙ some_of_up cell_order x y h

  pub lower_itself : (l u : KnownBound) → IsPlainRange l u → IsUpTo cell_order l.value l.value
  lower_itself l u r =
      let v = plain_value l.value r.plain_lower in
      let h = up_back l.value u.value r.ordered in
      inr (equal_itself cell_order law l.value (cells_compare u.value l.value l.value r.plain_upper v v h h))

  pub upper_itself : (l u : KnownBound) → IsPlainRange l u → IsUpTo order_from_above u.value u.value
  upper_itself l u r =
      let v = plain_value u.value r.plain_upper in
      let h = some_of_up cell_order l.value u.value r.ordered in
      inr (equal_itself cell_order law u.value (cells_compare l.value u.value u.value r.plain_lower v v h h))

  -- two bounds without parts, and a literal that is not null
  module _ (l u : KnownBound) (literal : Cell) (r : IsPlainRange l u) (n : is_null_cell literal ≡ false) where
    literal_itself : is_some (cell_order l.value literal) ≡ true → cell_order literal literal ≡ Some Equal
    literal_itself h = equal_itself cell_order law literal (cells_compare l.value literal literal r.plain_lower n n h h)

    taken : (o : Option Ordering) → includes (orders_by (Some l) (Some u) (cell_order l.value literal) (order_from_above u.value literal)) o ≡ true → Taken (Some l) (Some u) literal o
    taken None h =
        let p = not_or _ _ h in
        let q = or_false (settles (Some l) (cell_order l.value literal)) _ p.0 in
        record {
          value = l.value;
          is_value = plain_value l.value r.plain_lower;
          within = record { from = lower_itself l u r; to = r.ordered };
          stands = none_left (cell_order l.value literal) (and_false _ _ r.plain_lower q.0);
        }
    taken (Some Less) h =
        let p = not_or _ _ h in
        record {
          value = l.value;
          is_value = plain_value l.value r.plain_lower;
          within = record { from = lower_itself l u r; to = r.ordered };
          stands = less_left (cell_order l.value literal) (both_known l u (cell_order l.value literal) (order_from_above u.value literal) r p.0).0 p.1;
        }
    taken (Some Equal) h =
        let p = not_or _ _ h in
        let q = or_false _ _ p.1 in
        let k = both_known l u (cell_order l.value literal) (order_from_above u.value literal) r p.0 in
        record {
          value = literal;
          is_value = n;
          within = record { from = up_left (cell_order l.value literal) k.0 q.0; to = up_left (order_from_above u.value literal) k.1 q.1 };
          stands = literal_itself (some_of_not_none (cell_order l.value literal) k.0);
        }
    taken (Some Greater) h =
        let p = not_or _ _ h in
        let k = both_known l u (cell_order l.value literal) (order_from_above u.value literal) r p.0 in
        record {
          value = u.value;
          is_value = plain_value u.value r.plain_upper;
          within = record { from = r.ordered; to = upper_itself l u r };
          stands = turned cell_order law literal u.value (Some Less) (less_left (order_from_above u.value literal) k.1 p.1);
        }

  -- for any bounds that are plain
  taken_between : (lower upper : Option KnownBound) (literal : Cell) → ArePlainBounds lower upper → is_null_cell literal ≡ false → (o : Option Ordering)
      → includes (orders_by lower upper (bound_order cell_order lower literal) (bound_order order_from_above upper literal)) o ≡ true → Taken lower upper literal o
  taken_between None upper literal r n o h = absurd r
  taken_between (Some l) None literal r n o h = absurd r
  taken_between (Some l) (Some u) literal r n o h = taken l u literal r n o h

  -- some value is between them
  value_between : (lower upper : Option KnownBound) → ArePlainBounds lower upper → (x : Cell) × (is_null_cell x ≡ false) × IsWithin lower upper x
  value_between None upper r = absurd r
  value_between (Some l) None r = absurd r
  value_between (Some l) (Some u) r = (l.value, plain_value l.value r.plain_lower, record { from = lower_itself l u r; to = r.ordered })

-- ---- from the outcomes back to an order

-- a test of orders that some of them passes
module _ (test : Ordering → Bool) (s : Orders) where
  passed_at : (((s.less && test Less) || (s.equal && test Equal)) || (s.greater && test Greater)) ≡ true → (o : Ordering) × (includes s (Some o) ≡ true) × (test o ≡ true)
  passed_at h = elim (or_cases ((s.less && test Less) || (s.equal && test Equal)) _ h) [
    | inl k ↦ elim (or_cases (s.less && test Less) _ k) [
      | inl j ↦ let p = and_parts s.less _ j in (Less, p.0, p.1)
      | inr j ↦ let p = and_parts s.equal _ j in (Equal, p.0, p.1)
    ]
    | inr k ↦ let p = and_parts s.greater _ k in (Greater, p.0, p.1)
  ]

-- ---- cells

-- the truth on a value that stands to the literal as o
pub truth_at : (op : CompareOperator) (x literal : Cell) (o : Option Ordering) → is_null_cell x ≡ false → is_null_cell literal ≡ false → cell_order x literal ≡ o
    → compare_truth op x literal ≡ order_truth op o
truth_at op x literal o f g h =
    ap (λ b. cond (b || is_null_cell literal) Unknown (order_truth op (cell_order x literal))) f
    ∙ ap (λ b. cond b Unknown (order_truth op (cell_order x literal))) g
    ∙ ap (order_truth op) h

-- a value between the bounds is a cell that the statistics allow, if they allow values
pub value_admitted : (s : Known) (x : Cell) → may_be_value s ≡ true → is_null_cell x ≡ false → IsWithin s.lower s.upper x → Admits s x
value_admitted s x v f w = record { null = λ e. absurd (false≢true (sym f ∙ e)); value = λ e. v; within = λ e. w }

pub null_admitted : (s : Known) → may_be_null s ≡ true → Admits s (cell_or_null None)
null_admitted s n = record { null = λ e. n; value = λ e. absurd (false≢true (sym e)); within = λ e. absurd (false≢true (sym e)) }

same_known : (y z : Known) → Some y ≡ Some z → y ≡ z
same_known y z e = cc

-- what one column's statistics allow, said of a column of which something is known
pub as_known : (s : Known) (x : Cell) → Admits s x → (z : Known) → Some s ≡ Some z → Admits z x
as_known s x a z e = let P : Known → Type 0 = λ y. Admits y x in subst P (same_known s z e) a

-- ---- the law

module _ (law : IsOrder cell_order) where
  of_value : (s : Known) (op : CompareOperator) (literal : Cell) (t : Truth) → ArePlainBounds s.lower s.upper → is_null_cell literal ≡ false
      → allows (value_outcomes s op literal) t ≡ true → OnSomeCell s (λ x. compare_truth op x literal ≡ t)
  of_value s op literal True r n h =
      let p = and_parts (may_be_value s) _ h in
      let q = passed_at (λ o. holds op o) (orders s literal) p.1 in
      let k = taken_between law s.lower s.upper literal r n (Some q.0) q.1 in
      (k.value, value_admitted s k.value p.0 k.is_value k.within, truth_at op k.value literal (Some q.0) k.is_value n k.stands ∙ ap truth_of q.2)
  of_value s op literal False r n h =
      let p = and_parts (may_be_value s) _ h in
      let q = passed_at (λ o. not (holds op o)) (orders s literal) p.1 in
      let k = taken_between law s.lower s.upper literal r n (Some q.0) q.1 in
      (k.value, value_admitted s k.value p.0 k.is_value k.within, truth_at op k.value literal (Some q.0) k.is_value n k.stands ∙ ap truth_of (not_true _ q.2))
  of_value s op literal Unknown r n h = by_cause (or_cases (may_be_null s) _ h)
    where
      by_cause : (may_be_null s ≡ true) ⊎ ((may_be_value s && (orders s literal).incomparable) ≡ true) → OnSomeCell s (λ x. compare_truth op x literal ≡ Unknown)
      by_cause (inl e) = (cell_or_null None, null_admitted s e, refl)
      by_cause (inr e) =
          let p = and_parts (may_be_value s) _ e in
          let k = taken_between law s.lower s.upper literal r n None p.1 in
          (k.value, value_admitted s k.value p.0 k.is_value k.within, truth_at op k.value literal None k.is_value n k.stands)

  -- of a literal that is null
  of_null : (s : Known) (op : CompareOperator) (literal : Cell) (t : Truth) → ArePlainBounds s.lower s.upper → is_null_cell literal ≡ true
      → allows (unknown_outcomes s) t ≡ true → OnSomeCell s (λ x. compare_truth op x literal ≡ t)
  of_null s op literal True r n h = absurd (false≢true h)
  of_null s op literal False r n h = absurd (false≢true h)
  of_null s op literal Unknown r n h = by_cause (or_cases (may_be_null s) _ h)
    where
      by_cause : (may_be_null s ≡ true) ⊎ (may_be_value s ≡ true) → OnSomeCell s (λ x. compare_truth op x literal ≡ Unknown)
      by_cause (inl e) = (cell_or_null None, null_admitted s e, null_literal op (cell_or_null None) literal n)
      by_cause (inr e) =
          let w = value_between law s.lower s.upper r in
          (w.0, value_admitted s w.0 e w.1 w.2, null_literal op w.0 literal n)

  happens : (s : Known) (op : CompareOperator) (literal : Cell) (t : Truth) → ArePlainBounds s.lower s.upper
      → allows (compare_outcomes (Some s) op literal) t ≡ true → OnSomeCell s (λ x. compare_truth op x literal ≡ t)
  happens s op literal t r h = by_literal (is_null_cell literal) refl h
    where
      by_literal : (b : Bool) → is_null_cell literal ≡ b → allows (cond b (unknown_outcomes s) (value_outcomes s op literal)) t ≡ true → OnSomeCell s (λ x. compare_truth op x literal ≡ t)
      by_literal true e k = of_null s op literal t r e k
      by_literal false e k = of_value s op literal t r e k

  pub exact : ComparisonsAreExact
  exact s op literal t r = (
    (λ h. happens s op literal t r h),
    (λ h. sym (ap (allows (compare_outcomes (Some s) op literal)) h.2) ∙ comparison_allowed law (Some s) op h.0 literal (as_known s h.0 h.1)),
  )
