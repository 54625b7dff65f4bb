-- Values of logical types compare as their storages do, and where a literal stands that writes one.
use Rattle.std.proofs.Common.{◌≡◌, ◌⊎◌, ◌<◌, ◌≤◌, ◌-◌, ◌^◌, inl, inr, ℕ, ℤ, true, false, List, Option, Some, refl, sym, ap, ◌∙◌, arith, unsigned_abs, codes, FitsSigned}
use mir.Syntax.{w128}
use Rattle.std.proofs.lemmas.Int.{fits_signed_from_abs}
use Rattle.std.proofs.Math.Nat.{pow-le-pow_right}
use Rattle.std.specs.Cmp.Lexicographic.{slice_cmp}
use Rattle.std.specs.Option.{option_and_then, option_map}
use Rattle.std.specs.Ordering.{int_cmp, nat_cmp}
use Rattle.logical_scalars.specs.Stored.{IsOfLogicalType, logical_tree, raw_storage}
use Rattle.logical_scalars.specs.TypeShapes.{shape_in}
use Rattle.logical_types.specs.Extensions.{HasMetadata, id_of, metadata_of, storage_type_of}
use Rattle.logical_types.specs.Places.{fine_scale, number_at}
use Rattle.logical_types.specs.Shapes.{Shape, at_value_or, place_at, place_in, shape_of, storage_in, stored_as, timestamps}
use Rattle.logical_types.specs.Storing.{decimal_bytes}
use Rattle.logical_types.specs.Words.{Writes}
use Rattle.logical_types.specs.declared.extensions.StorageType.{StorageType}
use Rattle.logical_types.specs.declared.extensions.StorageType.TheVariants.{I32, I64, Bytes}
use Rattle.logical_types.specs.declared.logical.LogicalType.{LogicalType}
use Rattle.logical_types.specs.declared.logical.LogicalType.TheVariants.{Float64, Float32, Decimal, Date, Time, Timestamp}
use Rattle.logical_types.specs.declared.times.TimeUnit.TheVariants.{Seconds, Milliseconds, Microseconds, Nanoseconds}
use Rattle.record_rows.specs.Cells.{stored_content}
use Rattle.vortex_cells.specs.Cells.{is_null_content}
use Rattle.vortex_dtype.specs.TypeTree.{TypeTree}
use Rattle.vortex_dtype.specs.declared.nullability.Nullability.{Nullability}
use Rattle.vortex_filter.specs.Literals.{LiteralTree, decimal_at, logical_cell, number_literal, number_of_shape, option_or, position_of, storage_content, text_literal, text_of_shape}
use Rattle.vortex_filter.specs.Positions.{PositionTree, exactly}
use Rattle.vortex_filter.proofs.LiteralTypes.{TypesSay, WordsSay, storage_is}
use Rattle.vortex_value.specs.Order.{order}
use Rattle.vortex_value.specs.Values.Content.{content}
use Rattle.compared_words.proofs.DecimalBound.{below_limit}

abbrev pub BytesSort : Type 0
BytesSort = (x y : ℤ) → FitsSigned w128 x → FitsSigned w128 y → slice_cmp nat_cmp (decimal_bytes x) (decimal_bytes y) ≡ int_cmp x y

-- ---- contents

content_is : (k : StorageType) (z : ℤ) → content (raw_storage k z) ≡ storage_content k z
content_is I32 z = refl
content_is I64 z = refl
content_is Bytes z = refl

-- what a literal's cell holds
pub literal_content : (l : LogicalType) (z : ℤ) → storage_content (stored_as (shape_of l)) z ≡ stored_content l z
literal_content l z = ap (λ (k : StorageType). storage_content k z) (sym (storage_is l)) ∙ sym (content_is (storage_type_of l) z)

a_value : (k : StorageType) (z : ℤ) → is_null_content (content (raw_storage k z)) ≡ false
a_value I32 z = refl
a_value I64 z = refl
a_value Bytes z = refl

pub no_null : (l : LogicalType) (z : ℤ) → is_null_content (stored_content l z) ≡ false
no_null l z = a_value (storage_type_of l) z

pub by_kind : BytesSort → (k : StorageType) (y z : ℤ) → FitsSigned w128 y → FitsSigned w128 z → order (content (raw_storage k y)) (content (raw_storage k z)) ≡ Some (int_cmp y z)
by_kind sort I32 y z a b = refl
by_kind sort I64 y z a b = refl
by_kind sort Bytes y z a b = ap Some (sort y z a b)

pub fits : (precision : ℕ) (z : ℤ) → precision ≤ 38 → unsigned_abs z < 10 ^ precision → FitsSigned w128 z
fits precision z l h =
    let m : 10 ^ precision ≤ 10 ^ 38 = pow-le-pow_right (omega arith) l in
    fits_signed_from_abs w128 z (omega arith)

-- the contents of two values that are written have the order of their storages
pub content_order : BytesSort → (l : LogicalType) (v w : List ℕ) (y z : ℤ) → Writes l v y → Writes l w z → order (stored_content l y) (stored_content l z) ≡ Some (int_cmp y z)
content_order sort Float64 v w y z a b = refl
content_order sort Float32 v w y z a b = refl
content_order sort (Decimal d) v w y z a b =
    let p = fits d.precision y d.small (below_limit (10 ^ d.precision) d.scale v y a) in
    let q = fits d.precision z d.small (below_limit (10 ^ d.precision) d.scale w z b) in
    by_kind sort (storage_type_of (Decimal d)) y z p q
content_order sort Date v w y z a b = refl
content_order sort (Time Seconds) v w y z a b = refl
content_order sort (Time Milliseconds) v w y z a b = refl
content_order sort (Time Microseconds) v w y z a b = refl
content_order sort (Time Nanoseconds) v w y z a b = refl
content_order sort (Timestamp unit is_zoned) v w y z a b = refl

-- ---- the type of a column

described : (l : LogicalType) → HasMetadata l (metadata_of l)
described Float64 = refl
described Float32 = refl
described (Decimal d) = refl
described Date = refl
described (Time unit) = refl
described (Timestamp unit false) = refl
described (Timestamp unit true) = record { low = 3; high = 0; name = codes "UTC"; parts = refl; size = refl; some = omega arith }

pub of_type : (l : LogicalType) (n : Nullability) → IsOfLogicalType (logical_tree l n) l
of_type l n = record { id = id_of l; metadata = metadata_of l; kind = storage_type_of l; nullability = n; is = record { named = refl; described = described l; stored = refl }; typed = refl }

-- ---- literals

one_position : (p q : PositionTree) → Some p ≡ Some q → p ≡ q
one_position p q e = cc

pub by_shape : (f : Shape → Option PositionTree) (o : Option Shape) (s : Shape) (p : PositionTree) → o ≡ Some s → option_and_then f o ≡ Some p → f s ≡ Some p
by_shape f o s p e h = sym (ap (option_and_then f) e) ∙ h

module _ (say : WordsSay) (t : TypeTree) where
  value_at : (l : LogicalType) (word : List ℕ) (z : ℤ) (p : PositionTree) → Writes l word z → option_map (λ (y : ℤ). exactly (logical_cell t (shape_of l) y)) (storage_in (shape_of l) word) ≡ Some p → exactly (logical_cell t (shape_of l) z) ≡ p
  value_at l word z p w h = one_position _ _ (sym (ap (option_map (λ (y : ℤ). exactly (logical_cell t (shape_of l) y))) ((say l word z).1 w)) ∙ h)

  value_number : (l : LogicalType) (word : List ℕ) (z : ℤ) (p : PositionTree) → Writes l word z → number_of_shape t (shape_of l) word ≡ Some p → exactly (logical_cell t (shape_of l) z) ≡ p
  unfolding place_in
  value_number Float64 word z p w h = value_at Float64 word z p w h
  value_number Float32 word z p w h = value_at Float32 word z p w h
  value_number (Decimal d) word z p w h = one_position _ _ (sym (ap (λ o. option_map (decimal_at t (shape_of (Decimal d))) (at_value_or o (option_map (place_at (10 ^ d.precision) (10 ^ (fine_scale d.scale word - d.scale))) (number_at (fine_scale d.scale word) word)))) w) ∙ h)
  value_number Date word z p w h = absurd cc
  value_number (Time unit) word z p w h = absurd cc
  value_number (Timestamp unit is_zoned) word z p w h = absurd cc

  text_at : (l : LogicalType) (word : List ℕ) (z : ℤ) (p : PositionTree) → Writes l word z → text_of_shape t (shape_of l) word ≡ Some p → exactly (logical_cell t (shape_of l) z) ≡ p
  text_at Float64 word z p w h = value_number Float64 word z p w h
  text_at Float32 word z p w h = value_number Float32 word z p w h
  text_at (Decimal d) word z p w h = value_number (Decimal d) word z p w h
  text_at Date word z p w h = value_at Date word z p w h
  text_at (Time unit) word z p w h = value_at (Time unit) word z p w h
  text_at (Timestamp unit false) word z p w h = value_at (Timestamp unit false) word z p w h
  text_at (Timestamp unit true) word z p w h =
      let first = (say (Timestamp unit true) word z).1 w in
      one_position _ _ (sym (ap (λ (o : Option ℤ). option_map (λ (y : ℤ). exactly (logical_cell t (timestamps unit true) y)) (option_or o (storage_in (timestamps unit false) word))) first) ∙ h)

-- a literal that writes a value of the type stands at it
pub stands_at : TypesSay → WordsSay → (l : LogicalType) (n : Nullability) (tree : LiteralTree) (word : List ℕ) (z : ℤ) (p : PositionTree) → Writes l word z
    → (tree ≡ number_literal word) ⊎ (tree ≡ text_literal word) → position_of (logical_tree l n) tree ≡ Some p
    → exactly (logical_cell (logical_tree l n) (shape_of l) z) ≡ p
stands_at types say l n tree word z p w written h =
    let t = logical_tree l n in
    let shaped = (types l t).1 (of_type l n) in
    elim written [
      | inl e ↦ value_number say t l word z p w (by_shape (λ s. number_of_shape t s word) (shape_in t) (shape_of l) p shaped (sym (ap (position_of t) e) ∙ h))
      | inr e ↦ text_at say t l word z p w (by_shape (λ s. text_of_shape t s word) (shape_in t) (shape_of l) p shaped (sym (ap (position_of t) e) ∙ h))
    ]
