-- Steps of the test for zero, part by part.
use Rattle.std.proofs.Common.{◌≡◌, ◌≢◌, ◌==◌, ◌&&◌, ◌<◌, ℕ, suc, Bool, true, false, List, [], ◌∷◌, length, Option, Some, None, unwrap_or, drop, get_or, drop-cons, refl, sym, ap, arith}
use Rattle.std.proofs.lemmas.Bool.{and_right, ne_eqb}
use Rattle.vortex_dtype.specs.TypeOf.{dtype_trees}
use Rattle.vortex_dtype.specs.TypeTree.{TypeTree}
use Rattle.vortex_dtype.specs.declared.types.DType.{DType}
use Rattle.vortex_value.specs.Values.Content.{content, contents}
use Rattle.vortex_value.specs.Values.RawOf.{raw_of, value_trees}
use Rattle.vortex_value.specs.Values.Scalars.{scalar_raw, scalar_type}
use Rattle.vortex_value.specs.Steps.Filling.{Fills}
use Rattle.vortex_value.specs.Zero.{IsTheOneOf, each_zero, fields_zero, filling, has_no_places, is_zero_of}
use Rattle.vortex_value.specs.declared.scalars.Scalar.{Scalar}
use Rattle.vortex_value.specs.declared.values.ScalarValue.{ScalarValue}
use Rattle.vortex_dtype.specs.Lemmas.TypeLevels.{type_of-List, type_of-FixedSizeList, type_of-Map, type_of-Struct, type_of-Union, type_of-Extension}
use Rattle.vortex_value.proofs.FillingLaws.{bytes_fill, false_fills, no_elements_fill, no_entries_fill, null_fills, text_fills, variant_fills, zero_fills}
use Rattle.vortex_value.proofs.FillingSteps.{field_filled, fillings_at, is_some-and_rest, is_some-null_or, is_some-option_map, is_some-places_of, place_filled, places-push, type_size_item, union_filling}
use Rattle.vortex_value.proofs.Uniqueness.{one_value}
use Rattle.vortex_value.proofs.ValueSteps.{value_tree-Tuple, value_tree-Union, value_tree-Variant, variant_tree-parts, union_tree-parts}

pub has_no_places-value_trees : (vs : List (Option ScalarValue)) → has_no_places (contents (value_trees vs)) ≡ (length vs == 0)
has_no_places-value_trees [] = refl
has_no_places-value_trees (v ∷ vs) = sym (ne_eqb (suc (length vs)) 0 (λ h. absurd (omega arith)))

-- the elements from place i on
pub each_zero_at : (e : TypeTree) (i : ℕ) (vs : List (Option ScalarValue)) (v : Option ScalarValue) → i < length vs → v ≡ get_or vs i v
    → each_zero e (contents (value_trees (drop i vs))) ≡ (unwrap_or (is_zero_of e (content (raw_of v))) false && each_zero e (contents (value_trees (drop (suc i) vs))))
each_zero_at e i vs v h is = rw (drop-cons vs i v, ← is)

-- what is not said to be zero leaves the rest out
pub not_zero : (o : Option Bool) → o ≢ Some true → unwrap_or o false ≡ false
not_zero None h = refl
not_zero (Some true) h = absurd (h refl)
not_zero (Some false) h = refl

-- as many values as fields, or no zero
pub fields_zero-lengths : (ts : List DType) (vs : List (Option ScalarValue)) → length vs ≢ length ts → fields_zero (dtype_trees ts) (contents (value_trees vs)) ≡ false
fields_zero-lengths [] [] h = absurd (h refl)
fields_zero-lengths [] (v ∷ vs) h = refl
fields_zero-lengths (t ∷ ts) [] h = refl
fields_zero-lengths (t ∷ ts) (v ∷ vs) h = and_right _ _ (fields_zero-lengths ts vs (λ e. h (ap suc e)))

-- one level of a value and of a type, what fills a type, and what is zero
pub ruleset shown = (has_no_places-value_trees, each_zero_at, not_zero, fields_zero-lengths, type_size_item, is_some-null_or, is_some-places_of, is_some-and_rest, is_some-option_map, fillings_at, union_filling, place_filled, field_filled, places-push, false_fills, zero_fills, text_fills, bytes_fill, no_elements_fill, no_entries_fill, variant_fills, null_fills, value_tree-Tuple, value_tree-Union, value_tree-Variant, variant_tree-parts, union_tree-parts, type_of-List, type_of-FixedSizeList, type_of-Map, type_of-Struct, type_of-Union, type_of-Extension)

-- what fills a type makes the one scalar of it
pub the_filling : (nulls : Bool) (t : TypeTree) (y : Scalar) → scalar_type y ≡ t → Fills nulls t (scalar_raw y) → IsTheOneOf t (filling nulls t) (Some y)
the_filling nulls t y typed f = rw f.same (record {
  typed = typed;
  valid = rw typed f.valid;
  same = refl;
  only = λ v valid same. one_value t t v (scalar_raw y) refl valid f.valid same;
})
