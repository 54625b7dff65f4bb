-- Each outcome of a test for a prefix is its truth on a cell that the statistics allow.
use Rattle.std.proofs.Common.{◌≡◌, ◌⊎◌, inl, inr, ℕ, Bool, true, false, not, ◌&&◌, ◌||◌, cond, List, [], ◌∷◌, length, take, Option, Some, None, is_some, is_none, option_map, Ordering, Less, Equal, Greater, refl, sym, ap, ◌∙◌}
use Rattle.std.proofs.Math.Seq.{take-length}
use Rattle.std.proofs.lemmas.Bool.{false≢true}
use Rattle.std.specs.Cmp.Lexicographic.{slice_cmp, nat_list_cmp_total}
use Rattle.std.specs.Ordering.{is_eq, is_gt, is_lt, is_some_and, nat_cmp, ordering_reverse, ordering_then}
use Rattle.vortex_dtype.specs.TypeTree.{TypeTree, Same}
use Rattle.vortex_value.specs.Equality.{same_type}
use Rattle.vortex_value.specs.Lemmas.EqualityLaws.{same_type-Decides}
use Rattle.vortex_value.specs.Order.{order}
use Rattle.vortex_value.specs.Values.Content.{Content, text, string}
use Rattle.vortex_cells.specs.Cells.{Cell, cell_or_null, cell_order, is_null_cell, is_null_content}
use Rattle.vortex_statistics.specs.Statistics.{Known, KnownBound, may_be_null, may_be_value}
use Rattle.vortex_cells.proofs.CellLaws.{IsOrder, turned}
use Rattle.vortex_filter.specs.declared.truth.Truth.{Truth}
use Rattle.vortex_filter.specs.declared.truth.Truth.TheVariants.{False, Unknown, True}
use Rattle.filter_pruning.specs.Exactness.{ArePlainBounds, IsPlainRange, IsWithin, OnSomeCell, PrefixesAreExact}
use Rattle.filter_pruning.specs.Orders.{rules_out}
use Rattle.filter_pruning.specs.OutcomeSets.{allows}
use Rattle.filter_pruning.specs.Outcomes.{bound_prefix_order, is_prefix, is_prefix_content, never_begins, prefix_outcomes}
use Rattle.vortex_filter.specs.Prefixes.{begins_truth, cell_prefix_order, prefix_order, prefix_truth}
use Rattle.filter_pruning.proofs.Exactness.{as_known, both_known, lower_itself, null_admitted, upper_itself, value_admitted}
use Rattle.filter_pruning.proofs.Plain.{plain_value}
use Rattle.filter_pruning.proofs.PrefixLaws.{chosen, neither_begins, prefix_allowed}
use Rattle.vortex_filter.proofs.PrefixSteps.{begins_as_ordered}
use Rattle.filter_pruning.proofs.Tests.{and_parts, none_left, not_or, or_cases, or_false}

-- ---- lists

then_stands : (c r s o : Ordering) → (r ≡ o → s ≡ o) → ordering_then c r ≡ o → ordering_then c s ≡ o
then_stands Less r s o f e = e
then_stands Equal r s o f e = f e
then_stands Greater r s o f e = e

-- a prefix that is not equal to the beginning stands so to the whole
unequal_stands : (ps bs : List ℕ) (o : Ordering) → ¬ (o ≡ Equal) → slice_cmp nat_cmp ps (take (length ps) bs) ≡ o → slice_cmp nat_cmp ps bs ≡ o
unequal_stands [] bs o n e = absurd (n (sym e))
unequal_stands (p ∷ ps) [] o n e = e
unequal_stands (p ∷ ps) (b ∷ bs) o n e = then_stands (nat_cmp p b) (slice_cmp nat_cmp ps (take (length ps) bs)) (slice_cmp nat_cmp ps bs) o (unequal_stands ps bs o n) e

own_reverse : (o : Ordering) → o ≡ ordering_reverse o → o ≡ Equal
own_reverse Less e = cc
own_reverse Equal e = refl
own_reverse Greater e = cc

list_itself : (xs : List ℕ) → slice_cmp nat_cmp xs (take (length xs) xs) ≡ Equal
list_itself xs = ap (slice_cmp nat_cmp xs) (take-length xs) ∙ own_reverse (slice_cmp nat_cmp xs xs) (nat_list_cmp_total.antisymm xs xs)

-- ---- contents

some_same : (a b : Ordering) → Some a ≡ Some b → a ≡ b
some_same a b e = cc

content_stands : (c p : Content) (o : Ordering) → ¬ (o ≡ Equal) → prefix_order c p ≡ Some o → order p c ≡ Some o
content_stands (text bs) (text ps) o n e = ap Some (unequal_stands ps bs o n (some_same _ _ e))
content_stands (string bs) (string ps) o n e = ap Some (unequal_stands ps bs o n (some_same _ _ e))
content_stands _ _ o n e = absurd (false≢true (ap is_some e))

content_itself : (c p : Content) → is_some (prefix_order c p) ≡ true → prefix_order p p ≡ Some Equal
content_itself (text bs) (text ps) e = ap Some (list_itself ps)
content_itself (string bs) (string ps) e = ap Some (list_itself ps)
content_itself _ _ e = absurd (false≢true e)

no_null_prefix : (c p : Content) → is_some (prefix_order c p) ≡ true → is_null_content p ≡ false
no_null_prefix (text bs) (text ps) e = refl
no_null_prefix (string bs) (string ps) e = refl
no_null_prefix _ _ e = absurd (false≢true e)

no_prefix_order : (c p : Content) → is_prefix_content p ≡ false → prefix_order c p ≡ None
no_prefix_order (text bs) (text ps) e = absurd (false≢true (sym e))
no_prefix_order (string bs) (string ps) e = absurd (false≢true (sym e))
no_prefix_order _ _ e = refl

-- ---- cells

chosen_parts : {A : Type 0} (b : Bool) (o : Option A) → is_some (cond b o None) ≡ true → (b ≡ true) × (cond b o None ≡ o)
chosen_parts true o h = (refl, refl)
chosen_parts false o h = absurd (false≢true h)

types_back : (s t : TypeTree) → same_type s t ≡ true → same_type t s ≡ true
types_back s t h = let e : Same s t = (same_type-Decides s t).0 h in (same_type-Decides t s).1 (sym e)

types_itself : (t : TypeTree) → same_type t t ≡ true
types_itself t = (same_type-Decides t t).1 refl

prefix_stands : (x p : Cell) (o : Ordering) → ¬ (o ≡ Equal) → cell_prefix_order x p ≡ Some o → cell_order p x ≡ Some o
prefix_stands x p o n e =
    let h = chosen_parts (same_type x.typed p.typed) (prefix_order x.content p.content) (ap is_some e) in
    chosen _ _ _ (types_back x.typed p.typed h.0) (content_stands x.content p.content o n (sym h.1 ∙ e))

prefix_itself : (x p : Cell) → is_some (cell_prefix_order x p) ≡ true → cell_prefix_order p p ≡ Some Equal
prefix_itself x p e =
    let h = chosen_parts (same_type x.typed p.typed) (prefix_order x.content p.content) e in
    chosen _ _ _ (types_itself p.typed) (content_itself x.content p.content (sym (ap is_some h.1) ∙ e))

prefix_value : (x p : Cell) → is_some (cell_prefix_order x p) ≡ true → is_null_cell p ≡ false
prefix_value x p e =
    let h = chosen_parts (same_type x.typed p.typed) (prefix_order x.content p.content) e in
    no_null_prefix x.content p.content (sym (ap is_some h.1) ∙ e)

truth_on : (x p : Cell) (o : Option Ordering) → cell_prefix_order x p ≡ o → prefix_truth x p ≡ begins_truth (option_map is_eq o)
truth_on x p o e = ap begins_truth (begins_as_ordered x p ∙ ap (option_map is_eq) e)

-- ---- witnesses

-- a value between the bounds that has this truth
record Shows (lower upper : Option KnownBound) (p : Cell) (t : Truth) : Type 0 where
  value : Cell
  is_value : is_null_cell value ≡ false
  within : IsWithin lower upper value
  has : prefix_truth value p ≡ t

less_not_equal : Less ≡ Equal → ⊥
less_not_equal e = cc

greater_not_equal : Greater ≡ Equal → ⊥
greater_not_equal e = cc

module _ (law : IsOrder cell_order) where
  module _ (l u : KnownBound) (p : Cell) (r : IsPlainRange l u) where
    at_lower : (o : Option Ordering) (t : Truth) → cell_prefix_order l.value p ≡ o → begins_truth (option_map is_eq o) ≡ t → Shows (Some l) (Some u) p t
    at_lower o t e h = record {
      value = l.value;
      is_value = plain_value l.value r.plain_lower;
      within = record { from = lower_itself law l u r; to = r.ordered };
      has = truth_on l.value p o e ∙ h;
    }

    at_upper : (o : Option Ordering) (t : Truth) → cell_prefix_order u.value p ≡ o → begins_truth (option_map is_eq o) ≡ t → Shows (Some l) (Some u) p t
    at_upper o t e h = record {
      value = u.value;
      is_value = plain_value u.value r.plain_upper;
      within = record { from = r.ordered; to = upper_itself law l u r };
      has = truth_on u.value p o e ∙ h;
    }

    at_prefix : cell_prefix_order l.value p ≡ Some Greater → cell_prefix_order u.value p ≡ Some Less → Shows (Some l) (Some u) p True
    at_prefix e f = record {
      value = p;
      is_value = prefix_value l.value p (ap is_some e);
      within = record {
        from = inl (turned cell_order law p l.value (Some Greater) (prefix_stands l.value p Greater greater_not_equal e));
        to = inl (prefix_stands u.value p Less less_not_equal f);
      };
      has = truth_on p p (Some Equal) (prefix_itself l.value p (ap is_some e));
    }

    shows_true : (a b : Option Ordering) → cell_prefix_order l.value p ≡ a → cell_prefix_order u.value p ≡ b → is_none a ≡ false → is_none b ≡ false → is_some_and is_lt a ≡ false → is_some_and is_gt b ≡ false → Shows (Some l) (Some u) p True
    shows_true None b e f k m g h = absurd (false≢true (sym k))
    shows_true (Some Less) b e f k m g h = absurd (false≢true (sym g))
    shows_true (Some Equal) b e f k m g h = at_lower (Some Equal) True e refl
    shows_true (Some Greater) None e f k m g h = absurd (false≢true (sym m))
    shows_true (Some Greater) (Some Less) e f k m g h = at_prefix e f
    shows_true (Some Greater) (Some Equal) e f k m g h = at_upper (Some Equal) True f refl
    shows_true (Some Greater) (Some Greater) e f k m g h = absurd (false≢true (sym h))

    shows_false : (a b : Option Ordering) → cell_prefix_order l.value p ≡ a → cell_prefix_order u.value p ≡ b → is_none a ≡ false → is_none b ≡ false → (is_some_and is_eq a && is_some_and is_eq b) ≡ false → Shows (Some l) (Some u) p False
    shows_false None b e f k m h = absurd (false≢true (sym k))
    shows_false (Some Less) b e f k m h = at_lower (Some Less) False e refl
    shows_false (Some Greater) b e f k m h = at_lower (Some Greater) False e refl
    shows_false (Some Equal) None e f k m h = absurd (false≢true (sym m))
    shows_false (Some Equal) (Some Less) e f k m h = at_upper (Some Less) False f refl
    shows_false (Some Equal) (Some Greater) e f k m h = at_upper (Some Greater) False f refl
    shows_false (Some Equal) (Some Equal) e f k m h = absurd (false≢true (sym h))

  true_between : (lower upper : Option KnownBound) (p : Cell) → ArePlainBounds lower upper
      → (rules_out lower (bound_prefix_order lower p) || rules_out upper (bound_prefix_order upper p)) ≡ false
      → is_some_and is_lt (bound_prefix_order lower p) ≡ false → is_some_and is_gt (bound_prefix_order upper p) ≡ false → Shows lower upper p True
  true_between None upper p r k g h = absurd r
  true_between (Some l) None p r k g h = absurd r
  true_between (Some l) (Some u) p r k g h =
      let n = both_known l u (cell_prefix_order l.value p) (cell_prefix_order u.value p) r k in
      shows_true l u p r (cell_prefix_order l.value p) (cell_prefix_order u.value p) refl refl n.0 n.1 g h

  false_between : (lower upper : Option KnownBound) (p : Cell) → ArePlainBounds lower upper
      → (rules_out lower (bound_prefix_order lower p) || rules_out upper (bound_prefix_order upper p)) ≡ false
      → (is_some_and is_eq (bound_prefix_order lower p) && is_some_and is_eq (bound_prefix_order upper p)) ≡ false → Shows lower upper p False
  false_between None upper p r k h = absurd r
  false_between (Some l) None p r k h = absurd r
  false_between (Some l) (Some u) p r k h =
      let n = both_known l u (cell_prefix_order l.value p) (cell_prefix_order u.value p) r k in
      shows_false l u p r (cell_prefix_order l.value p) (cell_prefix_order u.value p) refl refl n.0 n.1 h

  unknown_between : (lower upper : Option KnownBound) (p : Cell) → ArePlainBounds lower upper → is_some (bound_prefix_order lower p) ≡ false → Shows lower upper p Unknown
  unknown_between None upper p r k = absurd r
  unknown_between (Some l) None p r k = absurd r
  unknown_between (Some l) (Some u) p r k = at_lower l u p r None Unknown (none_left (cell_prefix_order l.value p) k) refl

  happens : (s : Known) (p : Cell) (t : Truth) → ArePlainBounds s.lower s.upper → allows (prefix_outcomes (Some s) p) t ≡ true → OnSomeCell s (λ x. prefix_truth x p ≡ t)
  happens s p True r h =
      let q = and_parts (may_be_value s) _ h in
      let n = not_or (never_begins s p) _ q.1 in
      let o = or_false (not (is_prefix p)) _ n.0 in
      let j = or_false (is_some_and is_lt (bound_prefix_order s.lower p)) _ n.1 in
      let w = true_between s.lower s.upper p r o.1 j.0 j.1 in
      (w.value, value_admitted s w.value q.0 w.is_value w.within, w.has)
  happens s p False r h =
      let q = and_parts (may_be_value s) _ h in
      let n = not_or (never_begins s p) _ q.1 in
      let o = or_false (not (is_prefix p)) _ n.0 in
      let w = false_between s.lower s.upper p r o.1 n.1 in
      (w.value, value_admitted s w.value q.0 w.is_value w.within, w.has)
  happens s p Unknown r h = by_cause (or_cases (may_be_null s) _ h)
    where
      by_cause : (may_be_null s ≡ true) ⊎ ((may_be_value s && not (is_some (bound_prefix_order s.lower p) || is_some (bound_prefix_order s.upper p))) ≡ true) → OnSomeCell s (λ x. prefix_truth x p ≡ Unknown)
      by_cause (inl e) = (cell_or_null None, null_admitted s e, neither_begins (cell_or_null None) p refl)
      by_cause (inr e) =
          let q = and_parts (may_be_value s) _ e in
          let j = not_or (is_some (bound_prefix_order s.lower p)) _ q.1 in
          let w = unknown_between s.lower s.upper p r j.0 in
          (w.value, value_admitted s w.value q.0 w.is_value w.within, w.has)

  pub prefixes_exact : PrefixesAreExact
  prefixes_exact s p t r = (
    (λ h. happens s p t r h),
    (λ h. sym (ap (allows (prefix_outcomes (Some s) p)) h.2) ∙ prefix_allowed law (Some s) h.0 p (as_known s h.0 h.1)),
  )
