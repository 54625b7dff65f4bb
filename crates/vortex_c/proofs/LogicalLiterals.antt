-- Where a literal stands in a column whose type has bytes: at a cell that has bytes, or just above one.
use Rattle.std.proofs.Common.{◌≡◌, ◌∙◌, ◌<◌, ◌^◌, inl, inr, true, false, ℕ, ℤ, List, Option, None, Some, ap, refl, subst, sym, unsigned_abs}
use Rattle.vortex_dtype.specs.TypeTree.{TypeTree, as_nullable, binary_type, bool_type, erase, extension_type, integer_type, null_type, utf8_type}
use Rattle.vortex_value.specs.Equality.{HasNoTyped}
use Rattle.vortex_cells.specs.Cells.{Cell}
use Rattle.logical_scalars.specs.TypeShapes.{shape_in}
use Rattle.logical_types.specs.Shapes.{Shape, days, decimals, float32, float64, place_in, shape_of, storage_in, stored_as, times, timestamps}
use Rattle.logical_types.specs.Words.{IsStorageOf}
use Rattle.logical_types.specs.declared.decimals.places.DecimalPlace.{DecimalPlace}
use Rattle.logical_types.specs.declared.decimals.places.DecimalPlace.TheVariants.{At, Behind, BelowAll, AboveAll}
use Rattle.logical_types.specs.declared.extensions.StorageType.{StorageType}
use Rattle.logical_types.specs.declared.extensions.StorageType.TheVariants.{I32, I64, Bytes}
use Rattle.logical_types.specs.declared.logical.LogicalType.{LogicalType}
use Rattle.logical_types.specs.declared.logical.LogicalType.TheVariants.{Float64, Float32, Decimal, Date, Time, Timestamp}
use Rattle.logical_types.specs.declared.times.TimeUnit.{TimeUnit}
use Rattle.vortex_filter.specs.Literals.{LiteralTree, bytes_literal, decimal_at, instant_in, logical_cell, null_cell, null_literal, number_literal, number_of_shape, option_or, position_of, storage_content, text_literal, text_of_shape, truth_literal, written_value}
use Rattle.vortex_filter.specs.Positions.{PositionTree, exactly, just_above, lacking}
use Rattle.vortex_filter.proofs.LiteralTypes.{TypesSay, WordsSay, storage_is}
use Rattle.vortex_filter.proofs.PositionLaws.{CellFits}
use Rattle.filter_encoding.specs.Encoding.{HasByte, IsPlain, IsPlainCell}
use Rattle.filter_encoding.proofs.TypeLaws.{plain_of}
use Rattle.filter_sql.proofs.ConditionSteps.{bind_some, map_some}
use Rattle.filter_sql.proofs.FitLaws.{IsUntyped, literal_fits, literal_untyped}
use Rattle.vortex_c.proofs.LogicalWords.{IsPlaced, placed, value-written}

-- where a literal stands is a cell that has bytes, or none
abbrev pub IsPlainSaid : PositionTree → Type 0
IsPlainSaid (exactly x) = IsPlainCell x
IsPlainSaid (just_above x) = IsPlainCell x
IsPlainSaid (lacking o) = Unit {0}

-- the same of each literal
abbrev pub AreSaid : TypeTree → Type 0
AreSaid t = (l : LiteralTree) (p : PositionTree) → position_of t l ≡ Some p → IsPlainSaid p

-- ---- of a type that has a byte

-- a type is as plain as what it is without nullability
plain-erased : (t : TypeTree) → HasByte t → HasByte (erase t)
plain-erased null_type h = tt
plain-erased (bool_type n) h = tt
plain-erased (integer_type k n) h = tt
plain-erased (utf8_type n) h = tt
plain-erased (binary_type n) h = tt
plain-erased _ h = absurd h

plain-back : (t : TypeTree) → HasByte (erase t) → HasByte t
plain-back null_type h = tt
plain-back (bool_type n) h = tt
plain-back (integer_type k n) h = tt
plain-back (utf8_type n) h = tt
plain-back (binary_type n) h = tt
plain-back _ h = absurd h

-- a literal of a type that has a byte is of no logical type
plain-cell : (x : Cell) → HasByte x.typed → HasNoTyped x.content → IsPlainCell x
plain-cell x h untyped = record { plain = plain_of x.typed h; untyped = untyped; logical = λ l is. absurd (subst HasByte is.typed h) }

stands-plain : (t : TypeTree) (p : PositionTree) → HasByte t → CellFits t p → IsUntyped p → IsPlainSaid p
stands-plain t (exactly x) h fits untyped = plain-cell x (plain-back x.typed (subst HasByte fits (plain-erased t h))) untyped
stands-plain t (just_above x) h fits untyped = plain-cell x (plain-back x.typed (subst HasByte fits (plain-erased t h))) untyped
stands-plain t (lacking o) h fits untyped = tt

byte-said : (t : TypeTree) → HasByte t → AreSaid t
byte-said t h l p e = stands-plain t p h (literal_fits t l p e) (literal_untyped t l p e)

-- ---- of an extension

byte-nullable : (t : TypeTree) → HasByte t → HasByte (as_nullable t)
byte-nullable null_type h = tt
byte-nullable (bool_type n) h = tt
byte-nullable (integer_type k n) h = tt
byte-nullable (utf8_type n) h = tt
byte-nullable (binary_type n) h = tt
byte-nullable _ h = absurd h

null-plain : (id metadata : List ℕ) (u : TypeTree) → IsPlain (extension_type id metadata u) → IsPlainCell (null_cell (extension_type id metadata u))
null-plain id metadata u h = record {
  plain = record { id_held = h.id_held; metadata_held = h.metadata_held; stored = byte-nullable u h.stored };
  untyped = tt;
  logical = λ l of. inl refl;
}

stored-untyped : (k : StorageType) (z : ℤ) → HasNoTyped (storage_content k z)
stored-untyped I32 z = tt
stored-untyped I64 z = tt
stored-untyped Bytes z = tt

said-as : (p q : PositionTree) → Some p ≡ Some q → IsPlainSaid p → IsPlainSaid q
said-as p q e said = let same : p ≡ q = cc in subst IsPlainSaid same said

one-shape : (s q : Shape) → Some s ≡ Some q → s ≡ q
one-shape s q e = cc

-- the storage of a decimal is that of a value
decimal-value : (l : LogicalType) (precision scale : ℕ) (z : ℤ) → decimals precision scale ≡ shape_of l → unsigned_abs z < 10 ^ precision → IsStorageOf l z
decimal-value (Decimal d) precision scale z e h = let same : precision ≡ d.precision = cc in subst (λ (n : ℕ). unsigned_abs z < 10 ^ n) same h
decimal-value Float64 precision scale z e h = absurd cc
decimal-value Float32 precision scale z e h = absurd cc
decimal-value Date precision scale z e h = absurd cc
decimal-value (Time unit) precision scale z e h = absurd cc
decimal-value (Timestamp unit is_zoned) precision scale z e h = absurd cc

-- and so is that of an instant
instant-value : (l : LogicalType) (unit : TimeUnit) (z : ℤ) → timestamps unit true ≡ shape_of l → IsStorageOf (Timestamp unit true) z → IsStorageOf l z
instant-value (Timestamp other is_zoned) unit z e h = let same : unit ≡ other = cc in subst (λ (u : TimeUnit). IsStorageOf (Timestamp u is_zoned) z) same h
instant-value Float64 unit z e h = absurd cc
instant-value Float32 unit z e h = absurd cc
instant-value (Decimal d) unit z e h = absurd cc
instant-value Date unit z e h = absurd cc
instant-value (Time other) unit z e h = absurd cc

instant-written : WordsSay → (unit : TimeUnit) (word : List ℕ) (z : ℤ) → instant_in unit word ≡ Some z → IsStorageOf (Timestamp unit true) z
instant-written words unit word z e = by_first (storage_in (timestamps unit true) word) refl
  where
    by_first : (o : Option ℤ) → storage_in (timestamps unit true) word ≡ o → IsStorageOf (Timestamp unit true) z
    by_first (Some y) h =
        let said : Some y ≡ Some z = sym (ap (λ (q : Option ℤ). option_or q (storage_in (timestamps unit false) word)) h) ∙ e in
        value-written (Timestamp unit true) word z ((words (Timestamp unit true) word z).0 (h ∙ said))
    by_first None h =
        let said : storage_in (timestamps unit false) word ≡ Some z = sym (ap (λ (q : Option ℤ). option_or q (storage_in (timestamps unit false) word)) h) ∙ e in
        value-written (Timestamp unit false) word z ((words (Timestamp unit false) word z).0 said)

module _ (say : TypesSay) (words : WordsSay) (t : TypeTree) (plain : IsPlain t) where
  -- the cell with a storage that each logical type of this shape has
  value-plain : (s : Shape) (z : ℤ) → shape_in t ≡ Some s → ((l : LogicalType) → s ≡ shape_of l → IsStorageOf l z) → IsPlainCell (logical_cell t s z)
  value-plain s z shaped value = record {
    plain = plain;
    untyped = stored-untyped (stored_as s) z;
    logical = λ l of.
        let same : s ≡ shape_of l = one-shape s (shape_of l) (sym shaped ∙ (say l t).1 of) in
        inr (l, z, record { typed = of; value = value l same; stored = ap (λ (k : StorageType). storage_content k z) (ap stored_as same ∙ sym (storage_is l)) });
  }

  written-plain : (s : Shape) (word : List ℕ) (p : PositionTree) → shape_in t ≡ Some s → written_value t s word ≡ Some p → IsPlainSaid p
  written-plain s word p shaped e =
      let m = map_some (storage_in s word) (λ (z : ℤ). exactly (logical_cell t s z)) p e in
      subst IsPlainSaid m.2 (value-plain s m.0 shaped (λ l same. value-written l word m.0 ((words l word m.0).0 (ap (λ (q : Shape). storage_in q word) (sym same) ∙ m.1))))

  decimal-plain : (precision scale : ℕ) (place : DecimalPlace) → shape_in t ≡ Some (decimals precision scale) → IsPlaced (10 ^ precision) place → IsPlainSaid (decimal_at t (decimals precision scale) place)
  decimal-plain precision scale (At z) shaped h = value-plain (decimals precision scale) z shaped (λ l same. decimal-value l precision scale z same h)
  decimal-plain precision scale (Behind z) shaped h = value-plain (decimals precision scale) z shaped (λ l same. decimal-value l precision scale z same h)
  decimal-plain precision scale BelowAll shaped h = tt
  decimal-plain precision scale AboveAll shaped h = tt

  number-plain : (s : Shape) (word : List ℕ) (p : PositionTree) → shape_in t ≡ Some s → number_of_shape t s word ≡ Some p → IsPlainSaid p
  number-plain float64 word p shaped e = written-plain float64 word p shaped e
  number-plain float32 word p shaped e = written-plain float32 word p shaped e
  number-plain (decimals precision scale) word p shaped e =
      let m = map_some (place_in precision scale word) (decimal_at t (decimals precision scale)) p e in
      subst IsPlainSaid m.2 (decimal-plain precision scale m.0 shaped (placed precision scale word m.0 m.1))
  number-plain days word p shaped e = absurd cc
  number-plain (times unit) word p shaped e = absurd cc
  number-plain (timestamps unit is_zoned) word p shaped e = absurd cc

  text-plain : (s : Shape) (word : List ℕ) (p : PositionTree) → shape_in t ≡ Some s → text_of_shape t s word ≡ Some p → IsPlainSaid p
  text-plain float64 word p shaped e = number-plain float64 word p shaped e
  text-plain float32 word p shaped e = number-plain float32 word p shaped e
  text-plain (decimals precision scale) word p shaped e = number-plain (decimals precision scale) word p shaped e
  text-plain days word p shaped e = written-plain days word p shaped e
  text-plain (times unit) word p shaped e = written-plain (times unit) word p shaped e
  text-plain (timestamps unit false) word p shaped e = written-plain (timestamps unit false) word p shaped e
  text-plain (timestamps unit true) word p shaped e =
      let m = map_some (instant_in unit word) (λ (z : ℤ). exactly (logical_cell t (timestamps unit true) z)) p e in
      subst IsPlainSaid m.2 (value-plain (timestamps unit true) m.0 shaped (λ l same. instant-value l unit m.0 same (instant-written words unit word m.0 m.1)))

extension-said : TypesSay → WordsSay → (id metadata : List ℕ) (u : TypeTree) → IsPlain (extension_type id metadata u) → AreSaid (extension_type id metadata u)
extension-said say words id metadata u h null_literal p e = said-as (exactly (null_cell (extension_type id metadata u))) p e (null-plain id metadata u h)
extension-said say words id metadata u h (truth_literal b) p e = absurd cc
extension-said say words id metadata u h (number_literal word) p e =
    let a = bind_some (shape_in (extension_type id metadata u)) (λ (s : Shape). number_of_shape (extension_type id metadata u) s word) p e in
    number-plain say words (extension_type id metadata u) h a.0 word p a.1 a.2
extension-said say words id metadata u h (text_literal bs) p e =
    let a = bind_some (shape_in (extension_type id metadata u)) (λ (s : Shape). text_of_shape (extension_type id metadata u) s bs) p e in
    text-plain say words (extension_type id metadata u) h a.0 bs p a.1 a.2
extension-said say words id metadata u h (bytes_literal bs) p e = absurd cc

-- ---- of either

pub plain-said : TypesSay → WordsSay → (t : TypeTree) → IsPlain t → AreSaid t
plain-said say words (extension_type id metadata u) h = extension-said say words id metadata u h
plain-said say words t h = byte-said t h
