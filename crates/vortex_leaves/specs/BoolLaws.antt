-- The laws of the order of views of booleans. They stand here because trait implementations cite them.
use Rattle.std.proofs.Common.{◌≡◌, Bool, true, false, Option, Some, None, refl}
use Rattle.std.specs.Cmp.{bool_cmp_total}
use Rattle.std.specs.Option.{option_cmp}
use Rattle.std.specs.Ordering.{bool_cmp, is_eq}
use Rattle.vortex_dtype.specs.TypeTree.{TypeTree, bool_type, erase}
use Rattle.vortex_dtype.specs.declared.nullability.Nullability.TheVariants.{NonNullable}
use Rattle.vortex_value.specs.Equality.{equal, same_type}
use Rattle.vortex_value.specs.Order.{order}
use Rattle.vortex_value.specs.Values.Content.{content}
use Rattle.vortex_leaves.specs.BoolViews.{bool_view_content, bool_view_type}
use Rattle.vortex_leaves.specs.LeafOrders.{IsPartOrder, part_order}
use Rattle.vortex_leaves.specs.Leaves.{is_bool_type, raw_truth}
use Rattle.vortex_leaves.specs.declared.bool.BoolScalar.{BoolScalar}

erased_bool_type : (t : TypeTree) → is_bool_type t ≡ true → erase t ≡ bool_type NonNullable
erased_bool_type (bool_type n) h = refl
erased_bool_type _ h = cc

same : (s t : TypeTree) → is_bool_type s ≡ true → is_bool_type t ≡ true → same_type s t ≡ true
same s t g h = rw (erased_bool_type s g, erased_bool_type t h)

order_of_contents : (a b : Option Bool) → order (content (raw_truth a)) (content (raw_truth b)) ≡ Some (option_cmp bool_cmp a b)
order_of_contents None None = refl
order_of_contents None (Some b) = refl
order_of_contents (Some a) None = refl
order_of_contents (Some true) (Some true) = refl
order_of_contents (Some true) (Some false) = refl
order_of_contents (Some false) (Some true) = refl
order_of_contents (Some false) (Some false) = refl

equality_of_contents : (a b : Option Bool) → equal (content (raw_truth a)) (content (raw_truth b)) ≡ is_eq (option_cmp bool_cmp a b)
equality_of_contents None None = refl
equality_of_contents None (Some b) = refl
equality_of_contents (Some a) None = refl
equality_of_contents (Some true) (Some true) = refl
equality_of_contents (Some true) (Some false) = refl
equality_of_contents (Some false) (Some true) = refl
equality_of_contents (Some false) (Some false) = refl

pub bool_order : IsPartOrder bool_view_type bool_view_content (λ (x : BoolScalar). x.value) bool_cmp
bool_order = part_order (record {
  total = bool_cmp_total;
  one_type = λ x y. same (bool_view_type x) (bool_view_type y) x.kind y.kind;
  ordered = λ x y. order_of_contents x.value y.value;
  tied = λ x y. equality_of_contents x.value y.value;
})
