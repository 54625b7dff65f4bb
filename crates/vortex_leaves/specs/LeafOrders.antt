-- The laws of a view's order, from the order of what it holds. They stand here because trait implementations cite them.
use Rattle.std.proofs.Common.{◌≡◌, ◌&&◌, ◌∙◌, Bool, true, false, Option, Some, None, option_map, if◌then◌else◌, refl, ap, subst, sym}
use Rattle.std.specs.Cmp.{Agrees, Equal-is, IsEquivalence, IsPartialOrder, first_so, second_so, IsTotalOrder, partial_order_from_agreeing_total}
use Rattle.std.specs.Cmp.Lexicographic.{options_total}
use Rattle.std.specs.Option.{option_cmp}
use Rattle.std.specs.Ordering.{eq_by_cmp, is_eq, on, ordering_reverse}
use Rattle.std.specs.Bool.{Decides}
use Rattle.std.specs.declared.cmp.Ordering.{Ordering}
use Rattle.std.specs.declared.cmp.Ordering.TheVariants.{Less, Equal}
use Rattle.std.proofs.lemmas.Cmp.{on_total}
use Rattle.vortex_dtype.specs.TypeTree.{TypeTree}
use Rattle.vortex_value.specs.Equality.{equal, same_type}
use Rattle.vortex_value.specs.Order.{order, typed_order}
use Rattle.vortex_value.specs.Values.Content.{Content}

-- things of one type up to nullability that each hold an optional part, and whose order and equality are those of the parts
pub record HoldsPart {X A : Type 0} (type_at : X → TypeTree) (content_at : X → Content) (part : X → Option A) (cmp : A → A → Ordering) : Type 0 where
  pub total : IsTotalOrder cmp
  pub one_type : (x y : X) → same_type (type_at x) (type_at y) ≡ true
  pub ordered : (x y : X) → order (content_at x) (content_at y) ≡ Some (option_cmp cmp (part x) (part y))
  pub tied : (x y : X) → equal (content_at x) (content_at y) ≡ is_eq (option_cmp cmp (part x) (part y))

-- the laws of the order of such things, and that it is the order of their types and contents
pub record IsPartOrder {X A : Type 0} (type_at : X → TypeTree) (content_at : X → Content) (part : X → Option A) (cmp : A → A → Ordering) : Type 0 where
  pub total : IsTotalOrder (on part (option_cmp cmp))
  pub agrees : Agrees (λ (x y : X). typed_order (type_at x) (content_at x) (type_at y) (content_at y)) (on part (option_cmp cmp))
  pub ties : (x y : X) → (same_type (type_at x) (type_at y) && equal (content_at x) (content_at y)) ≡ eq_by_cmp (on part (option_cmp cmp)) x y
  pub partial : IsPartialOrder (λ (x y : X). same_type (type_at x) (type_at y) && equal (content_at x) (content_at y)) (λ (x y : X). typed_order (type_at x) (content_at x) (type_at y) (content_at y))

pub part_order : {X A : Type 0} {type_at : X → TypeTree} {content_at : X → Content} {part : X → Option A} {cmp : A → A → Ordering}
    → HoldsPart type_at content_at part cmp → IsPartOrder type_at content_at part cmp
part_order {X} {A} {type_at} {content_at} {part} {cmp} h =
    let whole : IsTotalOrder (on part (option_cmp cmp)) = on_total part (options_total h.total) in
    let agrees : Agrees (λ (x y : X). typed_order (type_at x) (content_at x) (type_at y) (content_at y)) (on part (option_cmp cmp)) = λ x y. rw (h.one_type x y, h.ordered x y) in
    let ties : (x y : X) → (same_type (type_at x) (type_at y) && equal (content_at x) (content_at y)) ≡ eq_by_cmp (on part (option_cmp cmp)) x y = λ x y. rw (h.one_type x y, h.tied x y) in
    record { total = whole; agrees = agrees; ties = ties; partial = partial_order_from_agreeing_total (on part (option_cmp cmp)) whole agrees ties }

reversed_if_alike : (b : Bool) (o p : Ordering) → o ≡ ordering_reverse p → (if b then Some o else None) ≡ option_map ordering_reverse (if b then Some p else None)
reversed_if_alike true o p h = ap Some h
reversed_if_alike false o p h = refl

is_below : (b : Bool) (o : Ordering) → (if b then Some o else None) ≡ Some Less → (b ≡ true) × (o ≡ Less)
is_below true o h = (refl, cc)
is_below false o h = cc

both_or_none : (b : Bool) (o : Ordering) → Decides (b && is_eq o) ((if b then Some o else None) ≡ Some Equal)
both_or_none true o = (λ h. ap Some ((Equal-is o).0 h), λ h. (Equal-is o).1 (cc))
both_or_none false o = ((λ h. cc), (λ h. cc))

-- things of one sort, as E says, are ordered by R, and others have no order
pub sorts_order : {X : Type 0} {E : X → X → Bool} {R : X → X → Ordering} → IsEquivalence E → IsTotalOrder R
    → IsPartialOrder (λ (x y : X). E x y && is_eq (R x y)) (λ (x y : X). if E x y then Some (R x y) else None)
sorts_order {X} {E} {R} e r = record {
  antisymm = λ x y. rw (e.symm x y) (reversed_if_alike (E y x) (R x y) (R y x) (r.antisymm x y));
  trans = λ x y z g h.
      let a = is_below (E x y) (R x y) g in
      let b = is_below (E y z) (R y z) h in
      let one : E x z ≡ true = e.congr x y z a.0 ∙ b.0 in
      rw (one, r.trans x y z a.1 b.1);
  matches_eq = λ x y. both_or_none (E x y) (R x y);
  congr = λ x y z h.
      let one : E x y ≡ true = first_so _ _ h in
      let tied : R x y ≡ Equal = (Equal-is (R x y)).0 (second_so _ _ h) in
      rw (e.congr x y z one, r.congr x y z tied);
}

-- a test and an order with the values of others have the laws of those
pub partial_order_alike : {X : Type 0} {E F : X → X → Bool} {C D : X → X → Option Ordering} → ((x y : X) → F x y ≡ E x y) → ((x y : X) → D x y ≡ C x y)
    → IsPartialOrder E C → IsPartialOrder F D
partial_order_alike {X} {E} {F} {C} {D} f d o =
    let ordered : IsPartialOrder E D = subst (IsPartialOrder E) (λ i x y. sym (d x y) i) o in
    subst (λ G. IsPartialOrder G D) (λ i x y. sym (f x y) i) ordered
