-- Bounds lose nothing, by the laws of the order of scalars.
use Rattle.std.proofs.Common.{◌≡◌, ℕ, inl, inr, List, Bool, true, false, not, ◌||◌, Option, Some, None, MatchOption, IfOk, Result, Ordering, Less, Equal, Greater, refl, ap, ◌∙◌}
use Rattle.std.proofs.lemmas.Result.{IfOk-weaker}
use Rattle.std.specs.Ordering.{is_some_and, is_lt, is_gt}
use Rattle.vortex_dtype.specs.TypeTree.{TypeTree}
use Rattle.vortex_value.specs.Order.{IsReversed, IsTransitive, reversed}
use Rattle.vortex_value.specs.Values.RawTree.{RawTree, is_absent}
use Rattle.vortex_value.specs.Values.Scalars.{scalar_order, scalar_raw}
use Rattle.vortex_value.specs.declared.scalars.Scalar.{Scalar}
use Rattle.vortex_array.specs.Words.{IsUpTo}
use Rattle.vortex_zone.specs.Zone.{AreBoundsOfKind, Bounds, LosesNothing, is_above, is_below}

-- what is not Less, or not Greater, is tested false
not_less : (o : Option Ordering) → ¬ (o ≡ Some Less) → is_some_and is_lt o ≡ false
not_less None h = refl
not_less (Some Less) h = absurd (h refl)
not_less (Some Equal) h = refl
not_less (Some Greater) h = refl

not_greater : (o : Option Ordering) → ¬ (o ≡ Some Greater) → is_some_and is_gt o ≡ false
not_greater None h = refl
not_greater (Some Less) h = refl
not_greater (Some Equal) h = refl
not_greater (Some Greater) h = absurd (h refl)

-- below what is not above the third: below the third
below_goes_on : IsTransitive scalar_order → (x y z : Scalar) → scalar_order x y ≡ Some Less → IsUpTo (scalar_order y z) → scalar_order x z ≡ Some Less
below_goes_on trans x y z h (inl k) = trans x y z Less Less h k refl refl
below_goes_on trans x y z h (inr k) = trans x y z Less Equal h k refl refl

-- what is not above the second, and the second below the third: below the third
up_to_below : IsTransitive scalar_order → (x y z : Scalar) → IsUpTo (scalar_order x y) → scalar_order y z ≡ Some Less → scalar_order x z ≡ Some Less
up_to_below trans x y z (inl h) k = trans x y z Less Less h k refl refl
up_to_below trans x y z (inr h) k = trans x y z Equal Less h k refl refl

turned_greater : IsReversed scalar_order → (x y : Scalar) → scalar_order x y ≡ Some Greater → scalar_order y x ≡ Some Less
turned_greater rev x y h = rev y x ∙ ap reversed h

turned_less : IsReversed scalar_order → (x y : Scalar) → scalar_order x y ≡ Some Less → scalar_order y x ≡ Some Greater
turned_less rev x y h = rev y x ∙ ap reversed h

not_below : IsTransitive scalar_order → (v lower least : Scalar) → IsUpTo (scalar_order lower least) → ¬ (scalar_order v least ≡ Some Less) → is_below v lower ≡ false
not_below trans v lower least up h = not_less _ (λ k. h (below_goes_on trans v lower least k up))

not_above : IsReversed scalar_order → IsTransitive scalar_order → (v upper greatest : Scalar) → IsUpTo (scalar_order greatest upper) → ¬ (scalar_order v greatest ≡ Some Greater) → is_above v (Some upper) ≡ false
not_above rev trans v upper greatest up h = not_greater _ (λ k.
    h (turned_less rev greatest v (up_to_below trans greatest upper v up (turned_greater rev v upper k))))

not_above_any : (None_says : Type 0) (Bounding : Scalar → Type 0) → IsReversed scalar_order → IsTransitive scalar_order → (v greatest : Scalar) (upper : Option Scalar)
    → ((u : Scalar) → Bounding u → IsUpTo (scalar_order greatest u)) → MatchOption upper None_says Bounding
    → ¬ (scalar_order v greatest ≡ Some Greater) → is_above v upper ≡ false
not_above_any N B rev trans v greatest None up m h = refl
not_above_any N B rev trans v greatest (Some u) up m h = not_above rev trans v u greatest (up u m) h

held : (a b c : Bool) → b ≡ false → c ≡ false → (a || not (b || c)) ≡ true
held true b c e f = refl
held false b c e f = ap (λ x. not (x || c)) e ∙ ap not f

loses_nothing : (L U : List ℕ → ℕ → List ℕ → Type 0) (H : List ℕ → ℕ → Type 0) (raw : List ℕ → RawTree) (t : TypeTree) (least greatest : Scalar) (n : ℕ) (z : Bounds)
    → IsReversed scalar_order → IsTransitive scalar_order → AreBoundsOfKind L U H raw t least greatest n z → LosesNothing least greatest z
loses_nothing L U H raw t least greatest n z rev trans are v within =
    held (is_absent (scalar_raw v)) _ _
    (not_below trans v z.lower least (are.lower.1.not_above least are.of_least) within.0)
    (not_above_any _ _ rev trans v greatest z.upper (λ u m. m.1.not_below greatest are.of_greatest) are.upper within.1)

pub lose_nothing : {E : Type 0} (L U : List ℕ → ℕ → List ℕ → Type 0) (H : List ℕ → ℕ → Type 0) (raw : List ℕ → RawTree) (t : TypeTree) (least greatest : Scalar) (n : ℕ) (r : Result Bounds E)
    → IsReversed scalar_order → IsTransitive scalar_order → IfOk r (AreBoundsOfKind L U H raw t least greatest n) → IfOk r (LosesNothing least greatest)
lose_nothing L U H raw t least greatest n r rev trans are =
    IfOk-weaker r _ _ (λ z k. loses_nothing L U H raw t least greatest n z rev trans k) are
