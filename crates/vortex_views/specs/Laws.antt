-- What the laws of views say. A view is seen as the borrowed scalar that it views.
use Rattle.std.specs.Prelude.{Bool}
use Rattle.vortex_value.specs.Equality.{EqualsByTypeAndContent}
use Rattle.vortex_value.specs.Order.{AgreesWhere}
use Rattle.vortex_value.specs.TypesWithin.{HasNoVariant}
use Rattle.vortex_value.specs.Values.Refs.{IsValidRef, ref_content, ref_order, ref_type}
use Rattle.vortex_value.specs.declared.refs.ScalarRef.{ScalarRef}

-- views are equal exactly if their types are the same up to nullability and their contents equal
abbrev pub EqualsAsViewed : {X : Type 0} → (X → ScalarRef) → (X → X → Bool) → Type 0
EqualsAsViewed viewed eq = EqualsByTypeAndContent (λ x. ref_type (viewed x)) (λ x. ref_content (viewed x)) eq

-- if a view is valid and its type has no variant at any depth, its order with another says Equal exactly if they are equal
abbrev pub OrderAgreesAsViewed : {X : Type 0} → (X → ScalarRef) → (X → X → Bool) → Type 0
OrderAgreesAsViewed viewed eq = AgreesWhere (λ x. HasNoVariant (ref_type (viewed x)) × IsValidRef (viewed x)) (λ x y. ref_order (viewed x) (viewed y)) eq
