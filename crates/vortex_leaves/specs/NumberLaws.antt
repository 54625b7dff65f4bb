-- The laws of the order of views of integers. They stand here because trait implementations cite them.
use Rattle.std.proofs.Common.{◌≡◌, ◌&&◌, Option, Some, None, refl}
use Rattle.std.specs.Cmp.{IsEquivalence, IsPartialOrder, int_cmp_total, signed_po, ties}
use Rattle.std.specs.Cmp.Lexicographic.{options_total}
use Rattle.std.specs.Option.{option_cmp}
use Rattle.std.specs.Ordering.{int_cmp, is_eq, on}
use Rattle.std.specs.declared.cmp.Ordering.{Ordering}
use Rattle.std.proofs.lemmas.Cmp.{on_equiv, on_total}
use Rattle.vortex_dtype.specs.Lemmas.TypeLaws.{tree_eq-equiv}
use Rattle.vortex_dtype.specs.TypeTree.{erase}
use Rattle.vortex_pvalue.specs.Whole.{whole_of}
use Rattle.vortex_pvalue.specs.declared.pvalues.PValue.{PValue}
use Rattle.vortex_value.specs.Equality.{equal, same_type}
use Rattle.vortex_value.specs.Order.{order, typed_order}
use Rattle.vortex_value.specs.Values.Content.{content}
use Rattle.vortex_leaves.specs.LeafOrders.{partial_order_alike, sorts_order}
use Rattle.vortex_leaves.specs.Numbers.{raw_number}
use Rattle.vortex_leaves.specs.PrimitiveViews.{number_view_content, number_view_type}
use Rattle.vortex_leaves.specs.declared.primitive.PrimitiveScalar.{PrimitiveScalar}

-- the order of optional integers
abbrev number_cmp : Option PValue → Option PValue → Ordering
number_cmp = option_cmp (on whole_of int_cmp)

order_of_contents : (a b : Option PValue) → order (content (raw_number a)) (content (raw_number b)) ≡ Some (number_cmp a b)
order_of_contents None None = refl
order_of_contents None (Some b) = refl
order_of_contents (Some a) None = refl
order_of_contents (Some a) (Some b) = refl

equality_of_contents : (a b : Option PValue) → equal (content (raw_number a)) (content (raw_number b)) ≡ is_eq (number_cmp a b)
equality_of_contents None None = refl
equality_of_contents None (Some b) = refl
equality_of_contents (Some a) None = refl
equality_of_contents (Some a) (Some b) = ties signed_po (λ x y. refl) (whole_of a) (whole_of b)

same_type-equiv : IsEquivalence same_type
same_type-equiv = on_equiv erase tree_eq-equiv

-- the order and equality of views, by types and contents, are those of their types and integers
pub number_order : IsPartialOrder (λ (x y : PrimitiveScalar). same_type (number_view_type x) (number_view_type y) && equal (number_view_content x) (number_view_content y))
    (λ (x y : PrimitiveScalar). typed_order (number_view_type x) (number_view_content x) (number_view_type y) (number_view_content y))
number_order = partial_order_alike
    (λ x y. rw (equality_of_contents x.pvalue y.pvalue))
    (λ x y. rw (order_of_contents x.pvalue y.pvalue))
    (sorts_order (on_equiv number_view_type same_type-equiv) (on_total (λ (x : PrimitiveScalar). x.pvalue) (options_total (on_total whole_of int_cmp_total))))
