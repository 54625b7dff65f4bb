-- What the code does to the bounds gives the statistics of one cell more.
use Rattle.std.proofs.Common.{◌≡◌, ℕ, ◌+◌, Bool, true, false, not, ◌&&◌, ◌||◌, if◌then◌else◌, Option, Some, None, is_some, Ordering, Less, Equal, Greater, refl, sym, ap, ◌∙◌}
use Rattle.std.proofs.lemmas.Bool.{false≢true}
use Rattle.std.specs.Ordering.{is_gt, is_some_and}
use Rattle.vortex_value.specs.Values.Content.{content}
use Rattle.vortex_value.specs.Values.RawTree.{RawTree, absent, is_absent}
use Rattle.vortex_cells.specs.Cells.{Cell, cell_order, is_null_cell, is_null_content, order_from_above}
use Rattle.vortex_statistics.specs.Changes.{after, change_by, change_of, leaves_upper, lower_change, replaces, replacing, upper_change}
use Rattle.vortex_statistics.specs.Merging.{sum_of}
use Rattle.vortex_statistics.specs.Observing.{becomes_bound, bound_after, bound_at, bound_with, is_below_some, is_new_bound, observed, with_null, with_value}
use Rattle.vortex_statistics.specs.Statistics.{Known, KnownBound, may_be_value}
use Rattle.vortex_statistics.specs.declared.observing.Change.{Change}
use Rattle.vortex_statistics.specs.declared.observing.Change.TheVariants.{Keep, Remove, Replace}

-- a raw value is absent exactly if its content is null
pub null_content : (v : RawTree) → is_null_content (content v) ≡ is_absent v
null_content absent = refl
null_content v = refl

-- ---- the bound after a change

pub made_after : (b : Option KnownBound) (x : Cell) → after (replacing x) b x ≡ bound_at x
made_after b x = by_test (is_some (cell_order x x))
  where
    by_test : (p : Bool) → after (if p then Replace else Remove) b x ≡ (if p then Some (record { value = x; is_exact = true }) else None)
    by_test true = refl
    by_test false = refl

by_order : (o : Option Ordering) (b : KnownBound) (x : Cell) → after (change_by o x) (Some b) x ≡ bound_with o b x
by_order None b x = refl
by_order (Some Less) b x = refl
by_order (Some Equal) b x = refl
by_order (Some Greater) b x = made_after (Some b) x

changed : (cmp : Cell → Cell → Option Ordering) (b : Option KnownBound) (x : Cell) → after (change_of cmp b x) b x ≡ bound_after cmp b x
changed cmp None x = refl
changed cmp (Some b) x = by_order (cmp b.value x) b x

-- ---- whether a change replaces the bound

replaces-replacing : (x : Cell) → replaces (replacing x) ≡ is_some (cell_order x x)
replaces-replacing x = by_test (is_some (cell_order x x))
  where
    by_test : (p : Bool) → replaces (if p then Replace else Remove) ≡ p
    by_test true = refl
    by_test false = refl

replaces-by : (o : Option Ordering) (x : Cell) → replaces (change_by o x) ≡ (is_some_and is_gt o && is_some (cell_order x x))
replaces-by None x = refl
replaces-by (Some Less) x = refl
replaces-by (Some Equal) x = refl
replaces-by (Some Greater) x = replaces-replacing x

replaces-of : (cmp : Cell → Cell → Option Ordering) (b : Option KnownBound) (x : Cell) → replaces (change_of cmp b x) ≡ is_new_bound cmp b x
replaces-of cmp None x = refl
replaces-of cmp (Some b) x = replaces-by (cmp b.value x) x

decides : (b : Option KnownBound) (s : Known) (x : Cell) → s.lower ≡ b → leaves_upper b (change_of cell_order b x) ≡ is_below_some (record s { lower = b }) x
decides None s x e = refl
decides (Some b) s x e = by_exact b.is_exact
  where
    by_exact : (p : Bool) → (if p then replaces (change_by (cell_order b.value x) x) else false) ≡ (p && (is_some_and is_gt (cell_order b.value x) && is_some (cell_order x x)))
    by_exact true = replaces-by (cell_order b.value x) x
    by_exact false = refl

-- ---- both bounds

lower_after : (s : Known) (x : Cell) → after (lower_change s x) s.lower x ≡ (with_value s x).lower
lower_after s x = by_values (may_be_value s)
  where
    by_values : (p : Bool) → after (if p then change_of cell_order s.lower x else replacing x) s.lower x
        ≡ (if p then bound_after cell_order s.lower x else bound_at x)
    by_values true = changed cell_order s.lower x
    by_values false = made_after s.lower x

upper_after : (s : Known) (x : Cell) → after (upper_change s x) s.upper x ≡ (with_value s x).upper
upper_after s x = by_values (may_be_value s)
  where
    by_lower : (p q : Bool) → p ≡ q → after (if p then Keep else change_of order_from_above s.upper x) s.upper x
        ≡ (if q then s.upper else bound_after order_from_above s.upper x)
    by_lower true true e = refl
    by_lower true false e = absurd (false≢true (sym e))
    by_lower false true e = absurd (false≢true e)
    by_lower false false e = changed order_from_above s.upper x

    by_values : (p : Bool) → after (if p then (if leaves_upper s.lower (change_of cell_order s.lower x) then Keep else change_of order_from_above s.upper x) else replacing x) s.upper x
        ≡ (if p then (if is_below_some s x then s.upper else bound_after order_from_above s.upper x) else bound_at x)
    by_values true = by_lower (leaves_upper s.lower (change_of cell_order s.lower x)) (is_below_some s x) (decides s.lower s x refl)
    by_values false = made_after s.upper x

-- ---- the calls

-- what the code makes of a null
pub null_step : (s : Known) (x : Cell) (v : RawTree) (rows : ℕ) (nulls : Option ℕ) → is_absent v ≡ true → x.content ≡ content v → rows ≡ s.row_count + 1 → nulls ≡ sum_of s.null_count (Some 1)
    → record { row_count = rows; null_count = nulls; lower = s.lower; upper = s.upper } ≡ observed s x
null_step s x v rows nulls e f r n =
    let with_rows : ℕ → Known = λ i. record { row_count = i; null_count = nulls; lower = s.lower; upper = s.upper } in
    let with_nulls : Option ℕ → Known = λ m. record { row_count = s.row_count + 1; null_count = m; lower = s.lower; upper = s.upper } in
    ap with_rows r ∙ ap with_nulls n ∙ by_null (is_null_cell x) (ap is_null_content f ∙ null_content v ∙ e)
  where
    by_null : (b : Bool) → b ≡ true → with_null s ≡ (if b then with_null s else with_value s x)
    by_null true h = refl
    by_null false h = absurd (false≢true h)

-- what the code makes of a value
pub value_step : (s : Known) (x : Cell) (v : RawTree) (rows : ℕ) (nulls : Option ℕ) (below above : Change) (lower upper : Option KnownBound) → is_absent v ≡ false → x.content ≡ content v → rows ≡ s.row_count + 1 → nulls ≡ s.null_count
    → below ≡ lower_change s x → above ≡ upper_change s x → lower ≡ after below s.lower x → upper ≡ after above s.upper x
    → record { row_count = rows; null_count = nulls; lower = lower; upper = upper } ≡ observed s x
value_step s x v rows nulls below above lower upper e f r n b a low_after up_after =
    let with_rows : ℕ → Known = λ i. record { row_count = i; null_count = nulls; lower = lower; upper = upper } in
    let with_nulls : Option ℕ → Known = λ m. record { row_count = s.row_count + 1; null_count = m; lower = lower; upper = upper } in
    let first : lower ≡ (with_value s x).lower = low_after ∙ ap (λ c. after c s.lower x) b ∙ lower_after s x in
    let second : upper ≡ (with_value s x).upper = up_after ∙ ap (λ c. after c s.upper x) a ∙ upper_after s x in
    let with_lower : Option KnownBound → Known = λ c. record { row_count = s.row_count + 1; null_count = s.null_count; lower = c; upper = upper } in
    let with_upper : Option KnownBound → Known = λ c. record { row_count = s.row_count + 1; null_count = s.null_count; lower = (with_value s x).lower; upper = c } in
    ap with_rows r ∙ ap with_nulls n ∙ ap with_lower first ∙ ap with_upper second ∙ by_null (is_null_cell x) (ap is_null_content f ∙ null_content v ∙ e)
  where
    by_null : (p : Bool) → p ≡ false → with_value s x ≡ (if p then with_null s else with_value s x)
    by_null true h = absurd (false≢true (sym h))
    by_null false h = refl

or_second : (p q : Bool) → q ≡ true → (p || q) ≡ true
or_second true q e = refl
or_second false q e = e

or_first : (p q : Bool) → p ≡ true → (p || q) ≡ true
or_first true q e = refl
or_first false q e = absurd (false≢true e)

valued : (s : Known) (x : Cell) (v : RawTree) (q : Bool) → is_absent v ≡ false → x.content ≡ content v → q ≡ true → (not (is_null_cell x) && q) ≡ true
valued s x v q e f h = by_null (is_null_cell x) (ap is_null_content f ∙ null_content v ∙ e)
  where
    by_null : (p : Bool) → p ≡ false → (not p && q) ≡ true
    by_null true i = absurd (false≢true (sym i))
    by_null false i = h

-- a value that replaces the lower bound becomes a bound
pub lower_becomes : (s : Known) (x : Cell) (v : RawTree) (below : Change) → is_absent v ≡ false → x.content ≡ content v → below ≡ lower_change s x → replaces below ≡ true → becomes_bound s x ≡ true
lower_becomes s x v below e f b r = valued s x v _ e f (by_values (may_be_value s) (sym (ap replaces b) ∙ r))
  where
    by_values : (p : Bool) → replaces (if p then change_of cell_order s.lower x else replacing x) ≡ true
        → (if p then (is_new_bound cell_order s.lower x || is_new_bound order_from_above s.upper x) else is_some (cell_order x x)) ≡ true
    by_values true h = or_first _ (is_new_bound order_from_above s.upper x) (sym (replaces-of cell_order s.lower x) ∙ h)
    by_values false h = sym (replaces-replacing x) ∙ h

-- one that replaces the upper bound does
pub upper_becomes : (s : Known) (x : Cell) (v : RawTree) (above : Change) → is_absent v ≡ false → x.content ≡ content v → above ≡ upper_change s x → replaces above ≡ true → becomes_bound s x ≡ true
upper_becomes s x v above e f a r = valued s x v _ e f (by_values (may_be_value s) (sym (ap replaces a) ∙ r))
  where
    by_lower : (p : Bool) → replaces (if p then Keep else change_of order_from_above s.upper x) ≡ true → is_new_bound order_from_above s.upper x ≡ true
    by_lower true h = absurd (false≢true h)
    by_lower false h = sym (replaces-of order_from_above s.upper x) ∙ h

    by_values : (p : Bool) → replaces (if p then (if leaves_upper s.lower (change_of cell_order s.lower x) then Keep else change_of order_from_above s.upper x) else replacing x) ≡ true
        → (if p then (is_new_bound cell_order s.lower x || is_new_bound order_from_above s.upper x) else is_some (cell_order x x)) ≡ true
    by_values true h = or_second (is_new_bound cell_order s.lower x) _ (by_lower (leaves_upper s.lower (change_of cell_order s.lower x)) h)
    by_values false h = sym (replaces-replacing x) ∙ h
