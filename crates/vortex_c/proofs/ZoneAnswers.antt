-- What a zone answers is told by the bytes of its bounds and of the value.
use Rattle.std.proofs.Common.{◌≡◌, ℕ, ◌||◌, List, Bool, true, false, not, Option, Some, None, if◌then◌else◌, refl, sym, ap, subst, ◌∙◌, nat_cmp}
use Rattle.std.specs.Cmp.Lexicographic.{slice_cmp}
use Rattle.std.specs.Ordering.{is_some_and, is_lt, is_gt}
use Rattle.vortex_dtype.specs.TypeTree.{TypeTree, Same, binary_type, utf8_type}
use Rattle.vortex_dtype.specs.declared.nullability.Nullability.TheVariants.{NonNullable}
use Rattle.vortex_value.specs.Equality.{same_type}
use Rattle.vortex_value.specs.Lemmas.EqualityLaws.{same_type-Decides}
use Rattle.vortex_value.specs.Order.{order}
use Rattle.vortex_value.specs.Values.Content.{content}
use Rattle.vortex_value.specs.Values.RawTree.{RawTree, is_absent, raw_bytes, raw_text}
use Rattle.vortex_value.specs.Values.Scalars.{scalar_order, scalar_raw, scalar_type}
use Rattle.vortex_value.specs.declared.scalars.Scalar.{Scalar}
use Rattle.vortex_bounds.specs.Truncation.{IsSource}
use Rattle.vortex_zone.specs.Zone.{is_above}
use Rattle.vortex_c.specs.Zones.{IsAnswerOfZones, may_hold_bytes}

-- raw values made of bytes: no nulls, and ordered as their bytes
record IsOfBytes (raw : List ℕ → RawTree) : Type 0 where
  present : (b : List ℕ) → is_absent (raw b) ≡ false
  ordered : (b c : List ℕ) → order (content (raw b)) (content (raw c)) ≡ Some (slice_cmp nat_cmp b c)

chosen : {A : Type 0} (b : Bool) (x y : A) → b ≡ true → (if b then x else y) ≡ x
chosen true x y h = refl
chosen false x y h = cc

order_of_sources : (t : TypeTree) (raw : List ℕ → RawTree) → IsOfBytes raw → (b c : List ℕ) (x y : Scalar)
    → IsSource t (raw b) x → IsSource t (raw c) y → scalar_order x y ≡ Some (slice_cmp nat_cmp b c)
order_of_sources t raw of b c x y h k =
    let same : Same (scalar_type x) (scalar_type y) = h.typed ∙ sym k.typed in
    chosen (same_type (scalar_type x) (scalar_type y)) (order (content (scalar_raw x)) (content (scalar_raw y))) None ((same_type-Decides (scalar_type x) (scalar_type y)).1 same)
    ∙ ap (λ v. order (content v) (content (scalar_raw y))) h.value
    ∙ ap (λ v. order (content (raw b)) (content v)) k.value
    ∙ of.ordered b c

joined : (a b c d e : Bool) → a ≡ false → b ≡ d → c ≡ e → (a || not (b || c)) ≡ not (d || e)
joined true b c d e h k l = cc
joined false b c d e h k l = ap (λ x. not (x || c)) k ∙ ap (λ x. not (d || x)) l

answers : (t : TypeTree) (raw : List ℕ → RawTree) → IsOfBytes raw → (lower : List ℕ) (upper : Option (List ℕ)) (value : List ℕ)
    → IsAnswerOfZones t raw lower upper value (may_hold_bytes lower upper value)
answers t raw of lower None value = λ z v h k.
    joined (is_absent (scalar_raw v)) (is_some_and is_lt (scalar_order v z.lower)) (is_above v z.upper) (is_lt (slice_cmp nat_cmp value lower)) false
    (ap is_absent k.value ∙ of.present value)
    (ap (λ o. is_some_and is_lt o) (order_of_sources t raw of value lower v z.lower k h.0))
    (ap (λ u. is_above v u) h.1)
answers t raw of lower (Some upper) value = λ z v h k.
    joined (is_absent (scalar_raw v)) (is_some_and is_lt (scalar_order v z.lower)) (is_above v z.upper) (is_lt (slice_cmp nat_cmp value lower)) (is_gt (slice_cmp nat_cmp value upper))
    (ap is_absent k.value ∙ of.present value)
    (ap (λ o. is_some_and is_lt o) (order_of_sources t raw of value lower v z.lower k h.0))
    (ap (λ u. is_above v u) h.1.1 ∙ ap (λ o. is_some_and is_gt o) (order_of_sources t raw of value upper v h.1.0 k h.1.2))

of_bytes : IsOfBytes raw_bytes
of_bytes = record { present = λ b. refl; ordered = λ b c. refl }

of_texts : IsOfBytes raw_text
of_texts = record { present = λ b. refl; ordered = λ b c. refl }

-- what is computed from the bytes is the answer of zones of bytes, and of strings
pub answers_of_bytes : (lower : List ℕ) (upper : Option (List ℕ)) (value : List ℕ) (answer : Bool) → answer ≡ may_hold_bytes lower upper value
    → IsAnswerOfZones (binary_type NonNullable) raw_bytes lower upper value answer
answers_of_bytes lower upper value answer e =
    subst (λ a. IsAnswerOfZones (binary_type NonNullable) raw_bytes lower upper value a) (sym e) (answers (binary_type NonNullable) raw_bytes of_bytes lower upper value)

pub answers_of_texts : (lower : List ℕ) (upper : Option (List ℕ)) (value : List ℕ) (answer : Bool) → answer ≡ may_hold_bytes lower upper value
    → IsAnswerOfZones (utf8_type NonNullable) raw_text lower upper value answer
answers_of_texts lower upper value answer e =
    subst (λ a. IsAnswerOfZones (utf8_type NonNullable) raw_text lower upper value a) (sym e) (answers (utf8_type NonNullable) raw_text of_texts lower upper value)
