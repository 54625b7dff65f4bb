-- The order of cells from below and from above, by the laws of the order of contents.
use Rattle.std.proofs.Common.{◌≡◌, ℕ, ◌<◌, ◌+◌, inl, inr, Bool, true, false, if◌then◌else◌, List, [], ◌∷◌, ◌++◌, length, map, take, get_or, Option, Some, None, is_some, Ordering, Less, Equal, Greater, refl, sym, ap, ◌∙◌}
use Rattle.std.proofs.lemmas.Bool.{false≢true}
use Rattle.std.proofs.lemmas.List.{map-append, take_more}
use Rattle.std.specs.Ordering.{is_gt, ordering_then}
use Rattle.vortex_dtype.specs.Lemmas.TypeLaws.{tree_eq-equiv}
use Rattle.vortex_dtype.specs.TypeTree.{TypeTree, erase}
use Rattle.vortex_value.specs.Equality.{same_type}
use Rattle.vortex_value.specs.Lemmas.EqualityLaws.{same_type-Decides}
use Rattle.vortex_value.specs.Order.{IsReversed, IsTransitive, order, reversed}
use Rattle.vortex_value.specs.Values.Content.{content}
use Rattle.vortex_value.specs.Values.RawTree.{RawTree}
use Rattle.vortex_value.specs.Values.Refs.{IsRefOf, ref_raw}
use Rattle.vortex_value.specs.Values.Scalars.{scalar_raw, scalar_type}
use Rattle.vortex_value.specs.declared.refs.ScalarRef.{ScalarRef}
use Rattle.vortex_value.specs.declared.scalars.Scalar.{Scalar}
use Rattle.vortex_cells.specs.Cells.{Cell, IsUpTo, cell_of, cell_of_ref, cell_order, order_from_above}

-- the laws of an order
pub record IsOrder (cmp : Cell → Cell → Option Ordering) : Type 0 where
  pub turns : IsReversed cmp
  pub goes_on : IsTransitive cmp

same_type-symmetric : (t u : TypeTree) → same_type t u ≡ same_type u t
same_type-symmetric t u = tree_eq-equiv.symm (erase t) (erase u)

turned_if : (b : Bool) (o p : Option Ordering) → o ≡ reversed p → (if b then o else None) ≡ reversed (if b then p else None)
turned_if true o p e = e
turned_if false o p e = refl

goes_on_if : (p q r : Bool) (o i j : Option Ordering) (a b : Ordering) → (p ≡ true → q ≡ true → r ≡ true) → (o ≡ Some a → i ≡ Some b → j ≡ Some (ordering_then a b))
    → (if p then o else None) ≡ Some a → (if q then i else None) ≡ Some b → (if r then j else None) ≡ Some (ordering_then a b)
goes_on_if true true true o i j a b f g h k = g h k
goes_on_if true true false o i j a b f g h k = absurd (false≢true (f refl refl))
goes_on_if true false r o i j a b f g h k = cc
goes_on_if false q r o i j a b f g h k = cc

pub from_below : IsReversed order → IsTransitive order → IsOrder cell_order
from_below rev trans = record {
  turns = λ x y. ap (λ b. if b then order x.content y.content else None) (same_type-symmetric x.typed y.typed) ∙ turned_if (same_type y.typed x.typed) _ _ (rev x.content y.content);
  goes_on = λ x y z a b h k f g. goes_on_if (same_type x.typed y.typed) (same_type y.typed z.typed) (same_type x.typed z.typed) _ _ _ a b
      (λ p q. (same_type-Decides x.typed z.typed).1 ((same_type-Decides x.typed y.typed).0 p ∙ (same_type-Decides y.typed z.typed).0 q))
      (λ i j. trans x.content y.content z.content a b i j f g) h k;
}

then_swapped : (a b : Ordering) → is_gt a ≡ false → is_gt b ≡ false → ordering_then b a ≡ ordering_then a b
then_swapped Greater b f g = absurd (false≢true (sym f))
then_swapped a Greater f g = absurd (false≢true (sym g))
then_swapped Less Less f g = refl
then_swapped Less Equal f g = refl
then_swapped Equal Less f g = refl
then_swapped Equal Equal f g = refl

pub from_above : IsOrder cell_order → IsOrder order_from_above
from_above law = record {
  turns = λ x y. law.turns y x;
  goes_on = λ x y z a b h k f g. law.goes_on z y x b a k h g f ∙ ap Some (then_swapped a b f g);
}

-- ---- steps of an order

module _ (cmp : Cell → Cell → Option Ordering) (law : IsOrder cmp) where
  pub turned : (x y : Cell) (o : Option Ordering) → cmp x y ≡ o → cmp y x ≡ reversed o
  turned x y o h = law.turns y x ∙ ap reversed h

  pub up_up : (x y z : Cell) → IsUpTo cmp x y → IsUpTo cmp y z → IsUpTo cmp x z
  up_up x y z (inl h) (inl k) = inl (law.goes_on x y z Less Less h k refl refl)
  up_up x y z (inl h) (inr k) = inl (law.goes_on x y z Less Equal h k refl refl)
  up_up x y z (inr h) (inl k) = inl (law.goes_on x y z Equal Less h k refl refl)
  up_up x y z (inr h) (inr k) = inr (law.goes_on x y z Equal Equal h k refl refl)

  pub below_up : (x y z : Cell) → cmp x y ≡ Some Less → IsUpTo cmp y z → cmp x z ≡ Some Less
  below_up x y z h (inl k) = law.goes_on x y z Less Less h k refl refl
  below_up x y z h (inr k) = law.goes_on x y z Less Equal h k refl refl

  pub equal_equal : (x y z : Cell) → cmp x y ≡ Some Equal → cmp y z ≡ Some Equal → cmp x z ≡ Some Equal
  equal_equal x y z h k = law.goes_on x y z Equal Equal h k refl refl

  -- what has an order with itself is equal to itself
  pub equal_itself : (x : Cell) → is_some (cmp x x) ≡ true → cmp x x ≡ Some Equal
  equal_itself x h = by_order (cmp x x) refl h
    where
      by_order : (o : Option Ordering) → cmp x x ≡ o → is_some o ≡ true → o ≡ Some Equal
      by_order None e k = absurd (false≢true k)
      by_order (Some Less) e k = let back : Some Less ≡ Some Greater = sym e ∙ turned x x (Some Less) e in cc
      by_order (Some Equal) e k = refl
      by_order (Some Greater) e k = let back : Some Greater ≡ Some Less = sym e ∙ turned x x (Some Greater) e in cc

  -- what is equal to two cells that compare compares with both
  pub compare_through : (a x y b : Cell) → cmp a x ≡ Some Equal → cmp b y ≡ Some Equal → is_some (cmp x y) ≡ true → is_some (cmp a b) ≡ true
  compare_through a x y b e f k = by_order (cmp x y) refl k
    where
      back : cmp y b ≡ Some Equal
      back = turned b y (Some Equal) f

      by_order : (o : Option Ordering) → cmp x y ≡ o → is_some o ≡ true → is_some (cmp a b) ≡ true
      by_order None h k = absurd (false≢true k)
      by_order (Some Less) h k = ap is_some (law.goes_on a y b Less Equal (law.goes_on a x y Equal Less e h refl refl) back refl refl)
      by_order (Some Equal) h k = ap is_some (law.goes_on a y b Equal Equal (law.goes_on a x y Equal Equal e h refl refl) back refl refl)
      by_order (Some Greater) h k =
          let below : cmp b x ≡ Some Less = law.goes_on b y x Equal Less f (turned x y (Some Greater) h) refl refl in
          ap is_some (turned b a (Some Less) (law.goes_on b x a Less Equal below (turned a x (Some Equal) e) refl refl))

-- ---- what scalars are as cells

-- one value more
pub cells_more : (xs : List Scalar) (i : ℕ) (x : Scalar) → i < length xs → x ≡ get_or xs i x → map cell_of (take (i + 1) xs) ≡ map cell_of (take i xs) ++ cell_of x ∷ []
cells_more xs i x h e =
    ap (map cell_of) (take_more xs i x h ∙ ap (λ y. take i xs ++ (y ∷ [])) (sym e)) ∙ map-append cell_of (take i xs) (x ∷ [])

-- a borrowed scalar is the cell that the scalar is
pub ref_cell : (x : Scalar) (r : ScalarRef) → IsRefOf (scalar_type x) (scalar_raw x) r → cell_of_ref r ≡ cell_of x
ref_cell x r made =
    let typed_as : TypeTree → Cell = λ t. record { typed = t; content = content (ref_raw r) } in
    let held_as : RawTree → Cell = λ v. record { typed = scalar_type x; content = content v } in
    ap typed_as made.typed ∙ ap held_as made.value
