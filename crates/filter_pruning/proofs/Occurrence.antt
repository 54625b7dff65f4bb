-- Each outcome of a comparison is its truth on a cell of the zone, if the bounds are exact.
use Rattle.std.proofs.Common.{◌≡◌, ◌⊎◌, inl, inr, ℕ, ◌<◌, Bool, true, false, not, ◌&&◌, ◌||◌, cond, List, count_by, Contains, Option, Some, None, IfSome, IsSome, is_some, is_none, Ordering, Less, Equal, Greater, refl, sym, ap, ◌∙◌, arith}
use Rattle.std.proofs.lemmas.Bool.{false≢true}
use Rattle.std.proofs.lemmas.Bool.Decides.{nat_tests}
use Rattle.std.specs.Ordering.{is_some_and, is_ge, is_gt}
use Rattle.vortex_cells.specs.Cells.{Cell, HasValue, cell_order, is_null_cell, order_from_above}
use Rattle.vortex_statistics.specs.Statistics.{AreRight, IsBound, Known, KnownBound, may_be_null, may_be_value, some_null}
use Rattle.vortex_cells.proofs.CellLaws.{IsOrder, turned}
use Rattle.vortex_filter.specs.declared.operator.CompareOperator.{CompareOperator}
use Rattle.vortex_filter.specs.declared.operator.CompareOperator.TheVariants.{Eq, NotEq, Gt, Gte, Lt, Lte}
use Rattle.vortex_filter.specs.declared.truth.Truth.{Truth}
use Rattle.vortex_filter.specs.declared.truth.Truth.TheVariants.{False, Unknown, True}
use Rattle.filter_pruning.specs.Exactness.{AreExactBounds, ArePlainBounds, ComparisonsOccur, IsPlainRange, OnSomeOf, needs_equal}
use Rattle.vortex_filter.specs.Formula.{compare_truth, order_truth}
use Rattle.vortex_filter.specs.Operators.{holds}
use Rattle.filter_pruning.specs.Orders.{bound_order, is_plain, orders, orders_by, settles}
use Rattle.filter_pruning.specs.OutcomeSets.{allows}
use Rattle.filter_pruning.specs.Outcomes.{compare_outcomes, unknown_outcomes, value_outcomes}
use Rattle.vortex_filter.specs.Truths.{truth_of}
use Rattle.filter_pruning.proofs.Admitting.{right_admits, stands_there}
use Rattle.filter_pruning.proofs.Exactness.{as_known, both_known, truth_at}
use Rattle.filter_pruning.proofs.Plain.{cells_reach}
use Rattle.filter_pruning.proofs.Soundness.{comparison_allowed}
use Rattle.filter_pruning.proofs.Tests.{and_false, and_parts, equal_left, less_left, none_left, none_not_some, not_or, not_true, or_cases, or_false, unless}

-- a value of the zone that stands so to the literal
record Occurs (cells : List Cell) (literal : Cell) (o : Option Ordering) : Type 0 where
  value : Cell
  has : HasValue cells value
  stands : cell_order value literal ≡ o

-- at the bound, if a test that passes on its side does not pass there
at_bound : (never side passes : Bool) → never ≡ false → passes ≡ true → (not (never || side) && passes) ≡ false → side ≡ true
at_bound true side passes x y z = absurd (false≢true (sym x))
at_bound false true passes x y z = refl
at_bound false false passes x y z = absurd (false≢true (sym z ∙ y))

module _ (law : IsOrder cell_order) where
  -- what is equal to a plain value stands to the literal as it does
  same_place : (b x literal : Cell) → is_plain b ≡ true → is_null_cell x ≡ false → is_null_cell literal ≡ false → cell_order b x ≡ Some Equal
      → (o : Option Ordering) → cell_order b literal ≡ o → cell_order x literal ≡ o
  same_place b x literal p f g e None k = none_left (cell_order x literal) (unless _ (λ h. none_not_some _ k (cells_reach b x literal p f g (ap is_some e) h)))
  same_place b x literal p f g e (Some Less) k = law.goes_on x b literal Equal Less (turned cell_order law b x (Some Equal) e) k refl refl
  same_place b x literal p f g e (Some Equal) k = law.goes_on x b literal Equal Equal (turned cell_order law b x (Some Equal) e) k refl refl
  same_place b x literal p f g e (Some Greater) k =
      turned cell_order law literal x (Some Less) (law.goes_on literal b x Less Equal (turned cell_order law b literal (Some Greater) k) e refl refl)

  module _ (l u : KnownBound) (cells : List Cell) (literal : Cell) (r : IsPlainRange l u) (n : is_null_cell literal ≡ false)
      (lower : IsBound cell_order l cells) (upper : IsBound order_from_above u cells) (exact : (l.is_exact ≡ true) × (u.is_exact ≡ true)) where
    -- some value stands to the literal as the lower bound does
    as_lower : (o : Option Ordering) → cell_order l.value literal ≡ o → Occurs cells literal o
    as_lower o k =
        let w = lower.exact exact.0 in
        record { value = w.0; has = w.1; stands = same_place l.value w.0 literal r.plain_lower w.1.value n w.2 o k }

    -- and some as the upper bound does
    as_upper : (o : Option Ordering) → cell_order u.value literal ≡ o → Occurs cells literal o
    as_upper o k =
        let w = upper.exact exact.1 in
        record { value = w.0; has = w.1; stands = same_place u.value w.0 literal r.plain_upper w.1.value n (turned cell_order law w.0 u.value (Some Equal) w.2) o k }

    -- ---- a test that passes below the literal or above it

    module _ (test : Ordering → Bool) (sides : (test Less || test Greater) ≡ true) where
      -- by whether no value compares, and how the bounds stand
      passing : (never ge gt le lt : Bool) → ge ≡ is_some_and is_ge (cell_order l.value literal) → gt ≡ is_some_and is_gt (cell_order l.value literal)
          → le ≡ is_some_and is_ge (order_from_above u.value literal) → lt ≡ is_some_and is_gt (order_from_above u.value literal)
          → (never ≡ false → (is_none (cell_order l.value literal) ≡ false) × (is_none (order_from_above u.value literal) ≡ false))
          → (((not (never || ge) && test Less) || (not (never || (gt || lt)) && test Equal)) || (not (never || le) && test Greater)) ≡ true
          → (o : Ordering) × Occurs cells literal (Some o) × (test o ≡ true)
      passing never ge gt le lt e f g h k p = by_less (not (never || ge) && test Less) refl
        where
          by_equal : (not (never || ge) && test Less) ≡ false → (not (never || le) && test Greater) ≡ false → (not (never || (gt || lt)) && test Equal) ≡ true → (o : Ordering) × Occurs cells literal (Some o) × (test o ≡ true)
          by_equal nl ng q =
              let a = and_parts (not (never || (gt || lt))) (test Equal) q in
              let b = not_or never (gt || lt) a.0 in
              let d = or_false gt lt b.1 in
              elim (or_cases (test Less) (test Greater) sides) [
                | inl t ↦ (Equal, as_lower (Some Equal) (equal_left (cell_order l.value literal) (sym e ∙ at_bound never ge (test Less) b.0 t nl) (sym f ∙ d.0)), a.1)
                | inr t ↦ (Equal, as_upper (Some Equal) (turned cell_order law literal u.value (Some Equal) (equal_left (order_from_above u.value literal) (sym g ∙ at_bound never le (test Greater) b.0 t ng) (sym h ∙ d.1))), a.1)
              ]

          by_greater : (not (never || ge) && test Less) ≡ false → (b : Bool) → (not (never || le) && test Greater) ≡ b → (o : Ordering) × Occurs cells literal (Some o) × (test o ≡ true)
          by_greater nl true q =
              let a = and_parts (not (never || le)) (test Greater) q in
              let d = not_or never le a.0 in
              (Greater, as_upper (Some Greater) (turned cell_order law literal u.value (Some Less) (less_left (order_from_above u.value literal) (k d.0).1 (sym g ∙ d.1))), a.1)
          by_greater nl false q = by_equal nl q (elim (or_cases ((not (never || ge) && test Less) || (not (never || (gt || lt)) && test Equal)) (not (never || le) && test Greater) p) [
            | inl w ↦ elim (or_cases (not (never || ge) && test Less) (not (never || (gt || lt)) && test Equal) w) [ inl v ↦ absurd (false≢true (sym nl ∙ v)) | inr v ↦ v ]
            | inr w ↦ absurd (false≢true (sym q ∙ w))
          ])

          by_less : (b : Bool) → (not (never || ge) && test Less) ≡ b → (o : Ordering) × Occurs cells literal (Some o) × (test o ≡ true)
          by_less true q =
              let a = and_parts (not (never || ge)) (test Less) q in
              let d = not_or never ge a.0 in
              (Less, as_lower (Some Less) (less_left (cell_order l.value literal) (k d.0).0 (sym e ∙ d.1)), a.1)
          by_less false q = by_greater q (not (never || le) && test Greater) refl

  -- ---- the same for any bounds that are plain and exact

  passing_between : (lower upper : Option KnownBound) (cells : List Cell) (literal : Cell) → ArePlainBounds lower upper → AreExactBounds lower upper → is_null_cell literal ≡ false
      → IfSome lower (λ b. IsBound cell_order b cells) → IfSome upper (λ b. IsBound order_from_above b cells) → (test : Ordering → Bool) → (test Less || test Greater) ≡ true
      → ((((orders_by lower upper (bound_order cell_order lower literal) (bound_order order_from_above upper literal)).less && test Less)
      || ((orders_by lower upper (bound_order cell_order lower literal) (bound_order order_from_above upper literal)).equal && test Equal))
      || ((orders_by lower upper (bound_order cell_order lower literal) (bound_order order_from_above upper literal)).greater && test Greater)) ≡ true
      → (o : Ordering) × Occurs cells literal (Some o) × (test o ≡ true)
  passing_between None upper cells literal r x n lo up test sides h = absurd r
  passing_between (Some l) None cells literal r x n lo up test sides h = absurd r
  passing_between (Some l) (Some u) cells literal r x n lo up test sides h =
      passing l u cells literal r n lo up x test sides _ _ _ _ _ refl refl refl refl (both_known l u (cell_order l.value literal) (order_from_above u.value literal) r) h

  none_between : (lower upper : Option KnownBound) (cells : List Cell) (literal : Cell) → ArePlainBounds lower upper → AreExactBounds lower upper → is_null_cell literal ≡ false
      → IfSome lower (λ b. IsBound cell_order b cells) → IfSome upper (λ b. IsBound order_from_above b cells)
      → (orders_by lower upper (bound_order cell_order lower literal) (bound_order order_from_above upper literal)).incomparable ≡ true → Occurs cells literal None
  none_between None upper cells literal r x n lo up h = absurd r
  none_between (Some l) None cells literal r x n lo up h = absurd r
  none_between (Some l) (Some u) cells literal r x n lo up h =
      let p = not_or _ _ h in
      let q = or_false (settles (Some l) (cell_order l.value literal)) _ p.0 in
      as_lower l u cells literal r n lo up x None (none_left (cell_order l.value literal) (and_false _ _ r.plain_lower q.0))

  -- ---- the law

  some_known : (rows : ℕ) (nulls : Option ℕ) (cells : List Cell) → IsSome nulls → IfSome nulls (λ k. k ≡ count_by is_null_cell cells) → some_null rows nulls ≡ true
      → (x : Cell) × Contains cells x × (is_null_cell x ≡ true)
  some_known rows None cells k e h = absurd (false≢true k)
  some_known rows (Some m) cells k e h = stands_there is_null_cell cells (let some : 0 < m = grind (arith, nat_tests) in omega (arith, some))

  null_truth : (op : CompareOperator) (x literal : Cell) → is_null_cell x ≡ true → compare_truth op x literal ≡ Unknown
  null_truth op x literal e = ap (λ b. cond (b || is_null_cell literal) Unknown (order_truth op (cell_order x literal))) e

  true_sides : (op : CompareOperator) → needs_equal op True ≡ false → (holds op Less || holds op Greater) ≡ true
  true_sides Eq e = absurd (false≢true (sym e))
  true_sides NotEq e = refl
  true_sides Gt e = refl
  true_sides Gte e = refl
  true_sides Lt e = refl
  true_sides Lte e = refl

  false_sides : (op : CompareOperator) → needs_equal op False ≡ false → (not (holds op Less) || not (holds op Greater)) ≡ true
  false_sides Eq e = refl
  false_sides NotEq e = absurd (false≢true (sym e))
  false_sides Gt e = refl
  false_sides Gte e = refl
  false_sides Lt e = refl
  false_sides Lte e = refl

  of_values : (s : Known) (op : CompareOperator) (literal : Cell) (t : Truth) → is_null_cell literal ≡ false
      → allows (compare_outcomes (Some s) op literal) t ≡ allows (value_outcomes s op literal) t
  of_values s op literal t n = ap (λ b. allows (cond b (unknown_outcomes s) (value_outcomes s op literal)) t) n

  module _ (s : Known) (cells : List Cell) (right : AreRight s cells) (counted : IsSome s.null_count)
      (r : ArePlainBounds s.lower s.upper) (x : AreExactBounds s.lower s.upper) (op : CompareOperator) (literal : Cell) (n : is_null_cell literal ≡ false) where
    cell_for : (o : Option Ordering) (t : Truth) → order_truth op o ≡ t → Occurs cells literal o → OnSomeOf cells (λ x. compare_truth op x literal ≡ t)
    cell_for o t e w = (w.value, w.has.cell, truth_at op w.value literal o w.has.value n w.stands ∙ e)

    happens : (t : Truth) → needs_equal op t ≡ false → allows (value_outcomes s op literal) t ≡ true → OnSomeOf cells (λ x. compare_truth op x literal ≡ t)
    happens True e h =
        let p = and_parts (may_be_value s) _ h in
        let w = passing_between s.lower s.upper cells literal r x n right.lower right.upper (λ o. holds op o) (true_sides op e) p.1 in
        cell_for (Some w.0) True (ap truth_of w.2) w.1
    happens False e h =
        let p = and_parts (may_be_value s) _ h in
        let w = passing_between s.lower s.upper cells literal r x n right.lower right.upper (λ o. not (holds op o)) (false_sides op e) p.1 in
        cell_for (Some w.0) False (ap truth_of (not_true _ w.2)) w.1
    happens Unknown e h = by_cause (or_cases (may_be_null s) _ h)
      where
        by_cause : (may_be_null s ≡ true) ⊎ ((may_be_value s && (orders s literal).incomparable) ≡ true) → OnSomeOf cells (λ x. compare_truth op x literal ≡ Unknown)
        by_cause (inl k) =
            let w = some_known s.row_count s.null_count cells counted right.nulls k in
            (w.0, w.1, null_truth op w.0 literal w.2)
        by_cause (inr k) = cell_for None Unknown refl (none_between s.lower s.upper cells literal r x n right.lower right.upper (and_parts (may_be_value s) _ k).1)

  pub occurs : ComparisonsOccur
  occurs s cells right counted r x op literal t n e = (
    (λ h. happens s cells right counted r x op literal n t e (sym (of_values s op literal t n) ∙ h)),
    (λ h. sym (ap (allows (compare_outcomes (Some s) op literal)) h.2) ∙ comparison_allowed law (Some s) op h.0 literal (as_known s h.0 (right_admits s cells h.0 right h.1))),
  )
