-- The statistics of cells and one cell more are right, and complete.
use Rattle.std.proofs.Common.{◌≡◌, inl, inr, ℕ, ◌+◌, ◌<◌, ◌^◌, Bool, true, false, cond, ◌&&◌, if◌then◌else◌, List, [], ◌∷◌, ◌++◌, length, count_by, Option, Some, None, IfSome, is_some, Ordering, Less, Equal, Greater, refl, sym, ap, subst, ◌∙◌, arith, length-append}
use Rattle.std.proofs.lemmas.Bool.{false≢true}
use Rattle.std.specs.Ordering.{is_gt, is_some_and}
use Rattle.vortex_value.specs.Order.{IsReversed, IsTransitive, order}
use Rattle.vortex_cells.specs.Cells.{AllCompare, Cell, HasValue, IsUpTo, cell_order, is_null_cell, order_from_above}
use Rattle.vortex_statistics.specs.Observing.{bound_after, bound_at, bound_with, is_below_some, is_exact_bound, is_new_bound, observed, with_null, with_value}
use Rattle.vortex_statistics.specs.Statistics.{AreComplete, AreRight, IsBound, Known, KnownBound, may_be_value}
use Rattle.vortex_statistics.proofs.BoundLaws.{HasNone, IsExactIfThere, bound_left, bound_right, holds_value, kept, only_value, value_cases, value_left, value_right}
use Rattle.vortex_cells.proofs.CellLaws.{IsOrder, below_up, compare_through, equal_itself, from_above, from_below, turned, up_up}
use Rattle.vortex_statistics.proofs.CountLaws.{count-append, count-one, no_value, sum_fits, sum_right, value_there}

and_first : (p q : Bool) → (p && q) ≡ true → p ≡ true
and_first true q e = refl
and_first false q e = e

and_second : (p q : Bool) → (p && q) ≡ true → q ≡ true
and_second true q e = e
and_second false q e = absurd (false≢true e)

greater_only : (o : Option Ordering) → is_some_and is_gt o ≡ true → o ≡ Some Greater
greater_only None e = absurd (false≢true e)
greater_only (Some Less) e = absurd (false≢true e)
greater_only (Some Equal) e = absurd (false≢true e)
greater_only (Some Greater) e = refl

-- ---- one bound

module _ (cmp : Cell → Cell → Option Ordering) (law : IsOrder cmp) (cells : List Cell) (x : Cell) (valued : is_null_cell x ≡ false) (itself : is_some (cell_order x x) ≡ true → is_some (cmp x x) ≡ true) where
  reaches : (a : Cell) → IsUpTo cmp a x → (y : Cell) → HasValue (x ∷ []) y → IsUpTo cmp a y
  reaches a up y v = let P : Cell → Type 0 = λ z. IsUpTo cmp a z in subst P (only_value x y v) up

  at_right : ((y : Cell) → HasValue cells y → cmp x x ≡ Some Equal → IsUpTo cmp x y) → IfSome (bound_at x) (λ c. IsBound cmp c (cells ++ x ∷ []))
  at_right reach = by_test (is_some (cell_order x x)) refl
    where
      by_test : (b : Bool) → is_some (cell_order x x) ≡ b → IfSome (if b then Some (record { value = x; is_exact = true }) else None) (λ c. IsBound cmp c (cells ++ x ∷ []))
      by_test false e = tt
      by_test true e =
          let same : cmp x x ≡ Some Equal = equal_itself cmp law x (itself e) in
          let made : KnownBound = record { value = x; is_exact = true } in
          let alone : IsBound cmp made (x ∷ []) = record {
            bounds = λ y v. reaches x (inr same) y v;
            exact = λ h. (x, holds_value x valued, same);
          } in
          bound_right cmp law cells (x ∷ []) made (λ y v. reach y v same) alone

  with_right : (b : KnownBound) (o : Option Ordering) → cmp b.value x ≡ o → IsBound cmp b cells → IfSome (bound_with o b x) (λ c. IsBound cmp c (cells ++ x ∷ []))
  with_right b None e h = tt
  with_right b (Some Less) e h = bound_left cmp law cells (x ∷ []) b h (reaches b.value (inl e))
  with_right b (Some Equal) e h = record {
    bounds = λ y v. elim (value_cases cells (x ∷ []) y v) [ inl p ↦ h.bounds y p | inr p ↦ reaches b.value (inr e) y p ];
    exact = λ k. (x, value_right cells (x ∷ []) x (holds_value x valued), e);
  }
  with_right b (Some Greater) e h = at_right (λ y v same. up_up cmp law x b.value y (inl (turned cmp law b.value x (Some Greater) e)) (h.bounds y v))

  pub after_right : (b : Option KnownBound) → IfSome b (λ c. IsBound cmp c cells) → IfSome (bound_after cmp b x) (λ c. IsBound cmp c (cells ++ x ∷ []))
  after_right None h = tt
  after_right (Some b) h = with_right b (cmp b.value x) refl h

  pub first_right : HasNone cells → IfSome (bound_at x) (λ c. IsBound cmp c (cells ++ x ∷ []))
  first_right empty = at_right (λ y v same. absurd (empty y v))

  -- ---- that it is exact, and there

  at_exact : (b : Bool) → IsExactIfThere (if b then Some (record { value = x; is_exact = true }) else None)
  at_exact true = refl
  at_exact false = tt

  with_exact : (b : KnownBound) (o : Option Ordering) → b.is_exact ≡ true → IsExactIfThere (bound_with o b x)
  with_exact b None e = tt
  with_exact b (Some Less) e = e
  with_exact b (Some Equal) e = refl
  with_exact b (Some Greater) e = at_exact (is_some (cell_order x x))

  pub after_exact : (b : Option KnownBound) → IsExactIfThere b → IsExactIfThere (bound_after cmp b x)
  after_exact None e = tt
  after_exact (Some b) e = with_exact b (cmp b.value x) e

  pub first_exact : IsExactIfThere (bound_at x)
  first_exact = at_exact (is_some (cell_order x x))

  at_there : (b : Bool) → b ≡ true → is_some (if b then Some (let made : KnownBound = record { value = x; is_exact = true } in made) else None) ≡ true
  at_there true e = refl
  at_there false e = absurd (false≢true e)

  with_there : (b : KnownBound) (o : Option Ordering) → is_some o ≡ true → is_some (cell_order x x) ≡ true → is_some (bound_with o b x) ≡ true
  with_there b None e f = absurd (false≢true e)
  with_there b (Some Less) e f = refl
  with_there b (Some Equal) e f = refl
  with_there b (Some Greater) e f = at_there (is_some (cell_order x x)) f

  pub after_there : (b : Option KnownBound) → ((y z : Cell) → HasValue (cells ++ x ∷ []) y → HasValue (cells ++ x ∷ []) z → is_some (cmp y z) ≡ true) → is_some (cell_order x x) ≡ true
      → IfSome b (λ c. IsBound cmp c cells) → IsExactIfThere b → is_some b ≡ true → is_some (bound_after cmp b x) ≡ true
  after_there None compare ordered h e k = absurd (false≢true k)
  after_there (Some b) compare ordered h e k =
      let w = h.exact e in
      with_there b (cmp b.value x)
      (compare_through cmp law b.value w.0 x x w.2 (equal_itself cmp law x (itself ordered)) (compare w.0 x (value_left cells (x ∷ []) w.0 w.1) (value_right cells (x ∷ []) x (holds_value x valued))))
      ordered

  pub first_there : is_some (cell_order x x) ≡ true → is_some (bound_at x) ≡ true
  first_there f = at_there (is_some (cell_order x x)) f

-- ---- both bounds

module _ (rev : IsReversed order) (trans : IsTransitive order) (s : Known) (cells : List Cell) (x : Cell) where
  below : IsOrder cell_order
  below = from_below rev trans

  above : IsOrder order_from_above
  above = from_above (from_below rev trans)

  one_more : s.row_count ≡ length cells → s.row_count + 1 ≡ length (cells ++ x ∷ [])
  one_more e = omega (arith, length-append cells (x ∷ []))

  -- below an exact lower bound x is below a value, and so below the upper bound
  under_upper : (l u : Option KnownBound) → (is_exact_bound l && is_new_bound cell_order l x) ≡ true → IfSome l (λ c. IsBound cell_order c cells) → IfSome u (λ c. IsBound order_from_above c cells)
      → IfSome u (λ c. IsBound order_from_above c (cells ++ x ∷ []))
  under_upper l None e h k = tt
  under_upper None (Some u) e h k = absurd (false≢true e)
  under_upper (Some l) (Some u) e h k =
      let w = h.exact (and_first l.is_exact _ e) in
      let past : cell_order l.value x ≡ Some Greater = greater_only (cell_order l.value x) (and_first _ (is_some (cell_order x x)) (and_second l.is_exact _ e)) in
      let lesser : cell_order x w.0 ≡ Some Less = below_up cell_order below x l.value w.0 (turned cell_order below l.value x (Some Greater) past) (inr w.2) in
      let low : cell_order x u.value ≡ Some Less = below_up cell_order below x w.0 u.value lesser (k.bounds w.0 w.1) in
      bound_left order_from_above above cells (x ∷ []) u k (λ y v. let P : Cell → Type 0 = λ z. IsUpTo order_from_above u.value z in subst P (only_value x y v) (inl low))

  -- ---- a value

  module _ (valued : is_null_cell x ≡ false) where
    nulls_stay : (n : Option ℕ) → IfSome n (λ k. k ≡ count_by is_null_cell cells) → IfSome n (λ k. k ≡ count_by is_null_cell (cells ++ x ∷ []))
    nulls_stay None h = tt
    nulls_stay (Some n) h = omega (arith, h, count-append cells (x ∷ []), count-one x ∙ ap (λ b. cond b 1 0) valued)

    value_right_for : AreRight s cells → AreRight (with_value s x) (cells ++ x ∷ [])
    value_right_for h = record {
      rows = one_more h.rows;
      nulls = nulls_stay s.null_count h.nulls;
      lower = lower_right (may_be_value s) refl;
      upper = upper_right (may_be_value s) refl;
    }
      where
        lower_right : (p : Bool) → may_be_value s ≡ p → IfSome (if p then bound_after cell_order s.lower x else bound_at x) (λ c. IsBound cell_order c (cells ++ x ∷ []))
        lower_right true e = after_right cell_order below cells x valued (λ k. k) s.lower h.lower
        lower_right false e = first_right cell_order below cells x valued (λ k. k) (no_value s e cells h)

        decided : (p : Bool) → is_below_some s x ≡ p → IfSome (if p then s.upper else bound_after order_from_above s.upper x) (λ c. IsBound order_from_above c (cells ++ x ∷ []))
        decided true e = under_upper s.lower s.upper e h.lower h.upper
        decided false e = after_right order_from_above above cells x valued (λ k. k) s.upper h.upper

        upper_right : (p : Bool) → may_be_value s ≡ p → IfSome (if p then (if is_below_some s x then s.upper else bound_after order_from_above s.upper x) else bound_at x) (λ c. IsBound order_from_above c (cells ++ x ∷ []))
        upper_right true e = decided (is_below_some s x) refl
        upper_right false e = first_right order_from_above above cells x valued (λ k. k) (no_value s e cells h)

    value_complete : AreComplete s cells → AreComplete (with_value s x) (cells ++ x ∷ [])
    value_complete h = record {
      right = value_right_for h.right;
      counted = h.counted;
      exact = record { lower = lower_exact (may_be_value s); upper = upper_exact (may_be_value s) };
      bounded = λ compare y v. there compare (may_be_value s) refl;
    }
      where
        lower_exact : (p : Bool) → IsExactIfThere (if p then bound_after cell_order s.lower x else bound_at x)
        lower_exact true = after_exact cell_order below cells x valued (λ k. k) s.lower h.exact.lower
        lower_exact false = first_exact cell_order below cells x valued (λ k. k)

        decided_exact : (p : Bool) → IsExactIfThere (if p then s.upper else bound_after order_from_above s.upper x)
        decided_exact true = h.exact.upper
        decided_exact false = after_exact order_from_above above cells x valued (λ k. k) s.upper h.exact.upper

        upper_exact : (p : Bool) → IsExactIfThere (if p then (if is_below_some s x then s.upper else bound_after order_from_above s.upper x) else bound_at x)
        upper_exact true = decided_exact (is_below_some s x)
        upper_exact false = first_exact order_from_above above cells x valued (λ k. k)

        decided_there : (p : Bool) → AllCompare (cells ++ x ∷ []) → is_some (cell_order x x) ≡ true → is_some s.upper ≡ true → is_some (if p then s.upper else bound_after order_from_above s.upper x) ≡ true
        decided_there true compare ordered k = k
        decided_there false compare ordered k = after_there order_from_above above cells x valued (λ i. i) s.upper (λ y z p q. compare z y q p) ordered h.right.upper h.exact.upper k

        there : AllCompare (cells ++ x ∷ []) → (p : Bool) → may_be_value s ≡ p
            → (is_some (if p then bound_after cell_order s.lower x else bound_at x) ≡ true)
            × (is_some (if p then (if is_below_some s x then s.upper else bound_after order_from_above s.upper x) else bound_at x) ≡ true)
        there compare true e =
            let ordered : is_some (cell_order x x) ≡ true = compare x x (value_right cells (x ∷ []) x (holds_value x valued)) (value_right cells (x ∷ []) x (holds_value x valued)) in
            let u = value_there s cells h.right h.counted e in
            let b = h.bounded (λ y z p q. compare y z (value_left cells (x ∷ []) y p) (value_left cells (x ∷ []) z q)) u.0 u.1 in
            (after_there cell_order below cells x valued (λ i. i) s.lower compare ordered h.right.lower h.exact.lower b.0, decided_there (is_below_some s x) compare ordered b.1)
        there compare false e =
            let ordered : is_some (cell_order x x) ≡ true = compare x x (value_right cells (x ∷ []) x (holds_value x valued)) (value_right cells (x ∷ []) x (holds_value x valued)) in
            (first_there cell_order below cells x valued (λ k. k) ordered, first_there order_from_above above cells x valued (λ k. k) ordered)

  -- ---- a null

  module _ (void : is_null_cell x ≡ true) where
    none_there : HasNone (x ∷ [])
    none_there y v = false≢true (sym v.value ∙ ap is_null_cell (sym (only_value x y v)) ∙ void)

    one_null : 1 ≡ count_by is_null_cell (x ∷ [])
    one_null = sym (count-one x ∙ ap (λ b. cond b 1 0) void)

    null_right_for : AreRight s cells → AreRight (with_null s) (cells ++ x ∷ [])
    null_right_for h = record {
      rows = one_more h.rows;
      nulls = sum_right cells (x ∷ []) s.null_count (Some 1) h.nulls one_null;
      lower = kept cell_order below cells (x ∷ []) s.lower none_there h.lower;
      upper = kept order_from_above above cells (x ∷ []) s.upper none_there h.upper;
    }

    null_complete : s.row_count + 1 < 2 ^ 64 → AreComplete s cells → AreComplete (with_null s) (cells ++ x ∷ [])
    null_complete fits h = record {
      right = null_right_for h.right;
      counted = sum_fits cells (x ∷ []) s.row_count 1 s.null_count (Some 1) h.counted refl h.right.rows refl h.right.nulls one_null fits;
      exact = record { lower = h.exact.lower; upper = h.exact.upper };
      bounded = λ compare y v. elim (value_cases cells (x ∷ []) y v) [
        | inl p ↦ h.bounded (λ w z i j. compare w z (value_left cells (x ∷ []) w i) (value_left cells (x ∷ []) z j)) y p
        | inr p ↦ absurd (none_there y p)
      ];
    }

  pub observed_right : AreRight s cells → AreRight (observed s x) (cells ++ x ∷ [])
  observed_right h = by_null (is_null_cell x) refl
    where
      by_null : (b : Bool) → is_null_cell x ≡ b → AreRight (if b then with_null s else with_value s x) (cells ++ x ∷ [])
      by_null true e = null_right_for e h
      by_null false e = value_right_for e h

  pub observed_complete : s.row_count + 1 < 2 ^ 64 → AreComplete s cells → AreComplete (observed s x) (cells ++ x ∷ [])
  observed_complete fits h = by_null (is_null_cell x) refl
    where
      by_null : (b : Bool) → is_null_cell x ≡ b → AreComplete (if b then with_null s else with_value s x) (cells ++ x ∷ [])
      by_null true e = null_complete e fits h
      by_null false e = value_complete e h
