-- How a decimal stands to a literal with any digits.
use Rattle.std.proofs.Common.{◌≡◌, ◌⊎◌, ◌∙◌, ◌-◌, ◌^◌, ◌<◌, ◌≤◌, inl, inr, ℕ, zero, suc, ℤ, pos, ◌*ℤ◌, Bool, true, false, List, Option, Some, None, arith, refl, sym, ap, max, nat_lt, option_map, subst, unsigned_abs, if◌then◌else◌}
use Rattle.std.specs.Ordering.{int_cmp}
use Rattle.logical_scalars.specs.Stored.{logical_tree}
use Rattle.logical_scalars.specs.TypeShapes.{shape_in}
use Rattle.logical_types.specs.Decimals.{decimal_value}
use Rattle.logical_types.specs.Extensions.{storage_type_of}
use Rattle.logical_types.specs.Places.{fine_scale, number_at}
use Rattle.logical_types.specs.Shapes.{at_value_or, place_at, place_in, shape_of}
use Rattle.logical_types.specs.declared.decimals.places.DecimalPlace.{DecimalPlace}
use Rattle.logical_types.specs.declared.decimals.places.DecimalPlace.TheVariants.{At, Behind, BelowAll, AboveAll}
use Rattle.logical_types.specs.declared.logical.DecimalType.{DecimalType}
use Rattle.logical_types.specs.declared.logical.LogicalType.TheVariants.{Decimal}
use Rattle.record_rows.specs.Cells.{stored_content}
use Rattle.vortex_cells.specs.Cells.{is_null_content}
use Rattle.vortex_dtype.specs.TypeTree.{TypeTree}
use Rattle.vortex_dtype.specs.declared.nullability.Nullability.{Nullability}
use Rattle.vortex_filter.specs.Literals.{LiteralTree, decimal_at, number_literal, number_of_shape, position_of, text_literal, text_of_shape}
use Rattle.vortex_filter.specs.Positions.{PositionTree, StandsIn, settled, standing}
use Rattle.vortex_filter.proofs.LiteralTypes.{TypesSay}
use Rattle.vortex_value.specs.Order.{order}
use Rattle.compared_words.proofs.DecimalBound.{below_limit}
use Rattle.compared_words.proofs.Finer.{finer}
use Rattle.compared_words.proofs.PlaceOrder.{Named, place_named, place_order, scaled_order, stands_to}
use Rattle.compared_words.proofs.Values.{BytesSort, by_kind, by_shape, fits, literal_content, no_null, of_type}

-- ---- the place of a literal

taken : (b : Bool) (x : Option ℤ) (n : ℤ) → (if b then None else x) ≡ Some n → x ≡ Some n
taken true x n e = absurd cc
taken false x n e = e

one_place : (p q : DecimalPlace) → Some p ≡ Some q → p ≡ q
one_place p q e = cc

some_power : (k : ℕ) → 0 < 10 ^ k
some_power zero = omega arith
some_power (suc k) = let i = some_power k in omega (arith, i)

finest : (scale places : ℕ) → scale ≤ max scale places
finest scale places = omega arith

-- what a place is to a value is what the number is, and it names values of the type
pub record Stands (d : DecimalType) (literal : List ℕ) (number : ℤ) (place : DecimalPlace) : Type 0 where
  pub named : Named (10 ^ d.precision) place
  pub order : (y : ℤ) → unsigned_abs y < 10 ^ d.precision → stands_to y place ≡ int_cmp (y *ℤ pos (10 ^ (fine_scale d.scale literal - d.scale))) number

pub place_stands : (d : DecimalType) (literal : List ℕ) (number : ℤ) (place : DecimalPlace) → number_at (fine_scale d.scale literal) literal ≡ Some number
    → place_in d.precision d.scale literal ≡ Some place → Stands d literal number place
unfolding place_in
place_stands d literal number place e h = by_value (decimal_value (10 ^ d.precision) d.scale literal) refl
  where
    by_value : (o : Option ℤ) → decimal_value (10 ^ d.precision) d.scale literal ≡ o → Stands d literal number place
    by_value (Some z) v =
        let at : At z ≡ place = one_place _ _ (sym (ap (λ (o : Option ℤ). at_value_or o (option_map (place_at (10 ^ d.precision) (10 ^ (fine_scale d.scale literal - d.scale))) (number_at (fine_scale d.scale literal) literal))) v) ∙ h) in
        let read = taken (nat_lt 38 (fine_scale d.scale literal)) (decimal_value (10 ^ 38) (fine_scale d.scale literal) literal) number e in
        let same = finer (10 ^ d.precision) (10 ^ 38) d.scale (fine_scale d.scale literal) literal z number (finest d.scale _) v read in
        subst (Stands d literal number) at (record {
          named = below_limit (10 ^ d.precision) d.scale literal z v;
          order = λ y l. scaled_order (10 ^ (fine_scale d.scale literal - d.scale)) y z (some_power (fine_scale d.scale literal - d.scale)) ∙ ap (int_cmp (y *ℤ pos (10 ^ (fine_scale d.scale literal - d.scale)))) same;
        })
    by_value None v =
        let at : place_at (10 ^ d.precision) (10 ^ (fine_scale d.scale literal - d.scale)) number ≡ place =
        one_place _ _ (sym (ap (λ (o : Option ℤ). at_value_or o (option_map (place_at (10 ^ d.precision) (10 ^ (fine_scale d.scale literal - d.scale))) (number_at (fine_scale d.scale literal) literal))) v
        ∙ ap (option_map (place_at (10 ^ d.precision) (10 ^ (fine_scale d.scale literal - d.scale)))) e) ∙ h) in
        subst (Stands d literal number) at (record {
          named = place_named (10 ^ d.precision) (10 ^ (fine_scale d.scale literal - d.scale)) number;
          order = λ y l. place_order (10 ^ d.precision) (10 ^ (fine_scale d.scale literal - d.scale)) y number (some_power (fine_scale d.scale literal - d.scale)) l;
        })

-- ---- the position of a literal

mapped : (f : DecimalPlace → PositionTree) (o : Option DecimalPlace) (p : PositionTree) → option_map f o ≡ Some p → (place : DecimalPlace) × (o ≡ Some place) × (f place ≡ p)
mapped f None p h = absurd cc
mapped f (Some place) p h = let same : f place ≡ p = cc in (place, refl, same)

pub position_place : TypesSay → (d : DecimalType) (n : Nullability) (tree : LiteralTree) (word : List ℕ) (p : PositionTree)
    → (tree ≡ number_literal word) ⊎ (tree ≡ text_literal word) → position_of (logical_tree (Decimal d) n) tree ≡ Some p
    → (place : DecimalPlace) × (place_in d.precision d.scale word ≡ Some place) × (decimal_at (logical_tree (Decimal d) n) (shape_of (Decimal d)) place ≡ p)
position_place types d n tree word p written h =
    let t = logical_tree (Decimal d) n in
    let shaped = (types (Decimal d) t).1 (of_type (Decimal d) n) in
    elim written [
      | inl e ↦ mapped (decimal_at t (shape_of (Decimal d))) (place_in d.precision d.scale word) p (by_shape (λ s. number_of_shape t s word) (shape_in t) (shape_of (Decimal d)) p shaped (sym (ap (position_of t) e) ∙ h))
      | inr e ↦ mapped (decimal_at t (shape_of (Decimal d))) (place_in d.precision d.scale word) p (by_shape (λ s. text_of_shape t s word) (shape_in t) (shape_of (Decimal d)) p shaped (sym (ap (position_of t) e) ∙ h))
    ]

-- ---- how values stand to it

module _ (sort : BytesSort) (d : DecimalType) (t : TypeTree) (y : ℤ) (l : unsigned_abs y < 10 ^ d.precision) where
  value_order : (z : ℤ) → unsigned_abs z < 10 ^ d.precision → order (stored_content (Decimal d) y) (stored_content (Decimal d) z) ≡ Some (int_cmp y z)
  value_order z m = by_kind sort (storage_type_of (Decimal d)) y z (fits d.precision y d.small l) (fits d.precision z d.small m)

  pub place_standing : (place : DecimalPlace) → Named (10 ^ d.precision) place → standing (stored_content (Decimal d) y) (decimal_at t (shape_of (Decimal d)) place) ≡ Some (stands_to y place)
  place_standing (At z) m = ap (order (stored_content (Decimal d) y)) (literal_content (Decimal d) z) ∙ value_order z m
  place_standing (Behind z) m = ap (option_map settled) (ap (order (stored_content (Decimal d) y)) (literal_content (Decimal d) z) ∙ value_order z m)
  place_standing BelowAll m = refl
  place_standing AboveAll m = refl

pub place_is_in : (d : DecimalType) (t : TypeTree) (place : DecimalPlace) → StandsIn t (decimal_at t (shape_of (Decimal d)) place)
place_is_in d t (At z) = (refl, ap is_null_content (literal_content (Decimal d) z) ∙ no_null (Decimal d) z)
place_is_in d t (Behind z) = (refl, ap is_null_content (literal_content (Decimal d) z) ∙ no_null (Decimal d) z)
place_is_in d t BelowAll = tt
place_is_in d t AboveAll = tt
