-- How a value can stand to a literal, by the bounds of its zone.
use Rattle.std.proofs.Common.{◌≡◌, true, false, not, ◌||◌, inl, inr, Option, Some, None, IfSome, is_some, is_none, Ordering, Less, Equal, Greater, refl, sym, ap, ◌∙◌}
use Rattle.std.specs.Ordering.{is_some_and, is_ge, is_gt}
use Rattle.vortex_cells.specs.Cells.{Cell, IsUpTo, cell_order, is_null_cell, order_from_above}
use Rattle.vortex_statistics.specs.Statistics.{Known, KnownBound}
use Rattle.vortex_cells.proofs.CellLaws.{IsOrder, from_above, turned}
use Rattle.filter_pruning.specs.Exactness.{IsWithin}
use Rattle.filter_pruning.specs.Orders.{bound_order, includes, orders, rules_out, settles}
use Rattle.filter_pruning.proofs.Plain.{cells_compare, cells_reach}
use Rattle.filter_pruning.proofs.Tests.{is_some-reversed, none_not_some, none_or_some, not_both, not_ge, or_none}

pub some_of_up : (cmp : Cell → Cell → Option Ordering) (x y : Cell) → IsUpTo cmp x y → is_some (cmp x y) ≡ true
some_of_up cmp x y (inl h) = ap is_some h
some_of_up cmp x y (inr h) = ap is_some h

-- ---- from one side, in either order

module _ (cmp : Cell → Cell → Option Ordering) (law : IsOrder cmp) (x literal : Cell) where
  -- the value before the literal: so is the bound
  before : (bound : Option KnownBound) → IfSome bound (λ b. IsUpTo cmp b.value x) → cmp x literal ≡ Some Less → is_some_and is_ge (bound_order cmp bound literal) ≡ false
  before None h k = refl
  before (Some b) (inl h) k = ap (is_some_and is_ge) (law.goes_on b.value x literal Less Less h k refl refl)
  before (Some b) (inr h) k = ap (is_some_and is_ge) (law.goes_on b.value x literal Equal Less h k refl refl)

  -- the value equal to the literal: the bound is not past it
  level : (bound : Option KnownBound) → IfSome bound (λ b. IsUpTo cmp b.value x) → cmp x literal ≡ Some Equal → is_some_and is_gt (bound_order cmp bound literal) ≡ false
  level None h k = refl
  level (Some b) (inl h) k = ap (is_some_and is_gt) (law.goes_on b.value x literal Less Equal h k refl refl)
  level (Some b) (inr h) k = ap (is_some_and is_gt) (law.goes_on b.value x literal Equal Equal h k refl refl)

  -- the literal up to a bound, which is up to the value: the two compare
  compares : (b : Cell) (o : Ordering) → IsUpTo cmp b x → cmp literal b ≡ Some o → is_gt o ≡ false → is_some (cmp x literal) ≡ true
  compares b o (inl h) k g = ap is_some (turned cmp law literal x _ (law.goes_on literal b x o Less k h g refl))
  compares b o (inr h) k g = ap is_some (turned cmp law literal x _ (law.goes_on literal b x o Equal k h g refl))

  -- the value does not compare with the literal: the bound is not equal to it, nor past it
  apart : (bound : Option KnownBound) → IfSome bound (λ b. IsUpTo cmp b.value x) → cmp x literal ≡ None → is_some_and is_ge (bound_order cmp bound literal) ≡ false
  apart None h n = refl
  apart (Some b) h n = not_ge (cmp b.value literal)
      (λ k. none_not_some _ n (compares b.value Equal h (turned cmp law b.value literal (Some Equal) k) refl))
      (λ k. none_not_some _ n (compares b.value Less h (turned cmp law b.value literal (Some Greater) k) refl))

-- ---- a bound compares with the value

pub reached_from : (bound : Option KnownBound) (x : Cell) → IfSome bound (λ b. IsUpTo cell_order b.value x) → IfSome bound (λ b. is_some (cell_order b.value x) ≡ true)
reached_from None x h = tt
reached_from (Some b) x h = some_of_up cell_order b.value x h

pub reached_to : IsOrder cell_order → (bound : Option KnownBound) (x : Cell) → IfSome bound (λ b. IsUpTo order_from_above b.value x) → IfSome bound (λ b. is_some (cell_order b.value x) ≡ true)
reached_to law None x h = tt
reached_to law (Some b) x h = ap is_some (law.turns b.value x) ∙ is_some-reversed (cell_order x b.value) ∙ some_of_up order_from_above b.value x h

-- ---- from both sides

module _ (law : IsOrder cell_order) (x literal : Cell) (valued : is_null_cell x ≡ false) (literal_valued : is_null_cell literal ≡ false) where
  swapped : (b : Cell) → is_some (order_from_above b literal) ≡ is_some (cell_order b literal)
  swapped b = ap is_some (law.turns literal b) ∙ is_some-reversed (cell_order b literal)

  -- a bound without parts that compares with the literal, from either side: so does the value
  unsettled : (bound : Option KnownBound) (o : Option Ordering) → IfSome bound (λ b. is_some (cell_order b.value x) ≡ true) → IfSome bound (λ b. is_some o ≡ is_some (cell_order b.value literal))
      → cell_order x literal ≡ None → settles bound o ≡ false
  unsettled None o h s n = not_both (is_some o) false (λ k p. absurd_false p)
    where
      absurd_false : false ≡ true → ⊥
      absurd_false e = cc
  unsettled (Some b) o h s n = not_both _ _ (λ k p. none_not_some _ n (cells_compare b.value x literal p valued literal_valued h (sym s ∙ k)))

  -- one that does not: nor does the value
  not_ruled_out : (bound : Option KnownBound) (o : Option Ordering) → IfSome bound (λ b. is_some (cell_order b.value x) ≡ true) → IfSome bound (λ b. is_some o ≡ is_some (cell_order b.value literal))
      → is_some (cell_order x literal) ≡ true → rules_out bound o ≡ false
  not_ruled_out None o h s n = not_both (is_none o) false (λ k p. absurd_false p)
    where
      absurd_false : false ≡ true → ⊥
      absurd_false e = cc
  not_ruled_out (Some b) o h s n = not_both _ _ (λ k p. none_or_some o k (s ∙ cells_reach b.value x literal p valued literal_valued h n))

  same_from : (bound : Option KnownBound) → IfSome bound (λ b. is_some (bound_order cell_order bound literal) ≡ is_some (cell_order b.value literal))
  same_from None = tt
  same_from (Some b) = refl

  same_to : (bound : Option KnownBound) → IfSome bound (λ b. is_some (bound_order order_from_above bound literal) ≡ is_some (cell_order b.value literal))
  same_to None = tt
  same_to (Some b) = swapped b.value

  -- ---- the order is among those that the bounds leave open

  ruled_out : (s : Known) (o : Ordering) → IsWithin s.lower s.upper x → cell_order x literal ≡ Some o
      → (rules_out s.lower (bound_order cell_order s.lower literal) || rules_out s.upper (bound_order order_from_above s.upper literal)) ≡ false
  ruled_out s o w k = or_none _ _
      (not_ruled_out s.lower _ (reached_from s.lower x w.from) (same_from s.lower) (ap is_some k))
      (not_ruled_out s.upper _ (reached_to law s.upper x w.to) (same_to s.upper) (ap is_some k))

  within_includes : (s : Known) (o : Option Ordering) → IsWithin s.lower s.upper x → cell_order x literal ≡ o → includes (orders s literal) o ≡ true
  within_includes s None w n = ap not (or_none _ _
      (or_none _ _ (unsettled s.lower _ (reached_from s.lower x w.from) (same_from s.lower) n) (unsettled s.upper _ (reached_to law s.upper x w.to) (same_to s.upper) n))
      (or_none _ _ (apart cell_order law x literal s.lower w.from n) (apart order_from_above (from_above law) x literal s.upper w.to (turned cell_order law x literal None n))))
  within_includes s (Some Less) w k = ap not (or_none _ _ (ruled_out s Less w k) (before cell_order law x literal s.lower w.from k))
  within_includes s (Some Equal) w k = ap not (or_none _ _ (ruled_out s Equal w k)
      (or_none _ _ (level cell_order law x literal s.lower w.from k) (level order_from_above (from_above law) x literal s.upper w.to (turned cell_order law x literal (Some Equal) k))))
  within_includes s (Some Greater) w k = ap not (or_none _ _ (ruled_out s Greater w k)
      (before order_from_above (from_above law) x literal s.upper w.to (turned cell_order law x literal (Some Greater) k)))

  -- the same, of the order itself
  pub includes_order : (s : Known) → IsWithin s.lower s.upper x → includes (orders s literal) (cell_order x literal) ≡ true
  includes_order s w = within_includes s (cell_order x literal) w refl
