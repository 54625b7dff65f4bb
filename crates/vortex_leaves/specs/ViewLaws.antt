-- The laws of equality by type and content. They stand here because trait implementations cite them.
use Rattle.std.proofs.Common.{◌&&◌}
use Rattle.std.specs.Cmp.{IsEquivalence}
use Rattle.std.specs.Hash.{Alike, and-Alike, on_Alike}
use Rattle.std.proofs.lemmas.Cmp.{on_equiv}
use Rattle.vortex_dtype.specs.TypeTree.{TypeTree}
use Rattle.vortex_value.specs.Equality.{equal, same_type}
use Rattle.vortex_value.specs.Hashing.{typed_feed}
use Rattle.vortex_value.specs.Lemmas.EqualityLaws.{equal-equiv}
use Rattle.vortex_value.specs.Lemmas.HashLaws.{content_feed-Alike, type_feed-Alike}
use Rattle.vortex_value.specs.Values.Content.{Content, typed}
use Rattle.vortex_value.specs.Values.Refs.{ref_content, ref_type}
use Rattle.vortex_value.specs.declared.refs.ScalarRef.{ScalarRef}
use Rattle.vortex_leaves.specs.RefViews.{ref_equal, ref_feed}

-- equality of views by type and content is an equivalence
pub view_equiv : {X : Type 0} (type_at : X → TypeTree) (content_at : X → Content)
    → IsEquivalence (λ (x y : X). same_type (type_at x) (type_at y) && equal (content_at x) (content_at y))
view_equiv {X} type_at content_at = on_equiv (λ (x : X). typed (type_at x) (content_at x)) equal-equiv

-- views that are equal by type and content are fed alike
pub view_alike : {X : Type 0} (type_at : X → TypeTree) (content_at : X → Content)
    → Alike (λ (x y : X). same_type (type_at x) (type_at y) && equal (content_at x) (content_at y)) (λ (x : X). typed_feed (type_at x) (content_at x))
view_alike type_at content_at = and-Alike (on_Alike type_at type_feed-Alike) (on_Alike content_at content_feed-Alike)

-- equality of the borrowed scalars that views hold is an equivalence
pub ref_equiv : {X : Type 0} (viewed : X → ScalarRef) → IsEquivalence (λ (x y : X). ref_equal (viewed x) (viewed y))
ref_equiv {X} viewed = view_equiv (λ (x : X). ref_type (viewed x)) (λ (x : X). ref_content (viewed x))

-- views whose borrowed scalars are equal are fed alike
pub ref_alike : {X : Type 0} (viewed : X → ScalarRef)
    → Alike (λ (x y : X). ref_equal (viewed x) (viewed y)) (λ (x : X). ref_feed (viewed x))
ref_alike {X} viewed = view_alike (λ (x : X). ref_type (viewed x)) (λ (x : X). ref_content (viewed x))
