-- Literals in columns of logical types.
use Rattle.std.proofs.Common.{◌≡◌, ◌↔◌, ◌&&◌, ◌+ℤ◌, IfNone, IfSome, Bool, true, false, cond, pos, ℤ, List, ℕ, Option, Some, None, Result, IfOk, option_and_then, option_map, refl, sym, subst, ap, ap₂, ◌∙◌}
use Rattle.vortex_dtype.specs.TypeTree.{TypeTree}
use Rattle.vortex_dtype.specs.declared.ptype.PType.{PType}
use Rattle.std.specs.Ordering.{int_cmp}
use Rattle.vortex_pvalue.specs.Conversions.{IsNumber}
use Rattle.vortex_pvalue.specs.Numbers.{InRange, in_range}
use Rattle.vortex_pvalue.specs.RangeLaws.{in_range_false, in_range_true}
use Rattle.vortex_pvalue.specs.declared.pvalues.PValue.{PValue}
use Rattle.vortex_value.specs.Values.Content.{Content, content}
use Rattle.vortex_value.specs.Values.Scalars.{IsMadeOf}
use Rattle.vortex_value.specs.declared.scalars.Scalar.{Scalar}
use Rattle.vortex_cells.specs.Cells.{Cell, cell_of}
use Rattle.logical_scalars.specs.Stored.{IsOfLogicalType, raw_storage}
use Rattle.logical_scalars.specs.TypeShapes.{shape_in}
use Rattle.logical_types.specs.Extensions.{storage_type_of}
use Rattle.logical_types.specs.Shapes.{Shape, place_in, shape_of, storage_in, stored_as, timestamps}
use Rattle.logical_types.specs.Words.{Writes}
use Rattle.logical_types.specs.declared.decimals.places.DecimalPlace.{DecimalPlace}
use Rattle.logical_types.specs.declared.extensions.StorageType.{StorageType}
use Rattle.logical_types.specs.declared.extensions.StorageType.TheVariants.{I32, I64, Bytes}
use Rattle.logical_types.specs.declared.logical.LogicalType.{LogicalType}
use Rattle.logical_types.specs.declared.logical.LogicalType.TheVariants.{Float64, Float32, Decimal, Date, Time, Timestamp}
use Rattle.logical_types.specs.declared.times.TimeUnit.{TimeUnit}
use Rattle.logical_types.specs.declared.times.TimeUnit.TheVariants.{Seconds, Milliseconds, Microseconds, Nanoseconds}
use Rattle.vortex_filter.specs.declared.error.FilterError.{FilterError}
use Rattle.vortex_filter.specs.declared.literals.Position.{Position}
use Rattle.vortex_filter.specs.Literals.{gap_position, instant_in, integer_at, integer_in, logical_cell, number_cell, option_or, storage_content, written_value}
use Rattle.vortex_filter.specs.Positions.{PositionTree, exactly, just_above, lacking, position_tree}

-- ---- the shape of a type

abbrev pub TypesSay : Type 0
TypesSay = (l : LogicalType) (t : TypeTree) → (shape_in t ≡ Some (shape_of l)) ↔ IsOfLogicalType t l

abbrev pub TypesAre : Type 0
TypesAre = (t : TypeTree) (s : Shape) → shape_in t ≡ Some s → (l : LogicalType) × (shape_of l ≡ s)

pub unshaped : TypesSay → TypesAre → (t : TypeTree) → ((l : LogicalType) → IsOfLogicalType t l → ⊥) → shape_in t ≡ None
unshaped says are t none = by_shape (shape_in t) refl
  where
    by_shape : (o : Option Shape) → shape_in t ≡ o → o ≡ None
    by_shape None h = refl
    by_shape (Some s) h = let l = are t s h in absurd (none l.0 ((says l.0 t).0 (h ∙ ap Some (sym l.1))))

-- where a literal stands by the shape, it stands by the type
abbrev Stands : Option PositionTree → Result (Option Position) FilterError → Type 0
Stands o r = IfOk r (λ found. option_map position_tree found ≡ o)

pub by_shape : (f : Shape → Option PositionTree) (t : TypeTree) (s : Shape) (r : Result (Option Position) FilterError) → shape_in t ≡ Some s → Stands (f s) r → Stands (option_and_then f (shape_in t)) r
by_shape f t s r e h = subst (λ (o : Option Shape). Stands (option_and_then f o) r) (sym e) h

pub by_none : (f : Shape → Option PositionTree) (t : TypeTree) → shape_in t ≡ None → ◌≡◌ {A = Option PositionTree} None (option_and_then f (shape_in t))
by_none f t e = sym (ap (option_and_then f) e)

-- ---- the cell of a scalar

pub storage_is : (l : LogicalType) → storage_type_of l ≡ stored_as (shape_of l)
storage_is Float64 = refl
storage_is Float32 = refl
storage_is (Decimal d) = refl
storage_is Date = refl
storage_is (Time Seconds) = refl
storage_is (Time Milliseconds) = refl
storage_is (Time Microseconds) = refl
storage_is (Time Nanoseconds) = refl
storage_is (Timestamp unit zoned) = refl

content_is : (k : StorageType) (z : ℤ) → content (raw_storage k z) ≡ storage_content k z
content_is I32 z = refl
content_is I64 z = refl
content_is Bytes z = refl

abbrev cell_from : TypeTree → Content → Cell
cell_from t c = record { typed = t; content = c }

pub made_cell : (t : TypeTree) (l : LogicalType) (z : ℤ) (x : Scalar) → IsMadeOf t (raw_storage (storage_type_of l) z) x → cell_of x ≡ logical_cell t (shape_of l) z
made_cell t l z x m = ap₂ cell_from m.typed (ap content m.value ∙ content_is (storage_type_of l) z ∙ ap (λ (k : StorageType). storage_content k z) (storage_is l))

-- ---- words

abbrev pub WordsSay : Type 0
WordsSay = (l : LogicalType) (word : List ℕ) (z : ℤ) → (storage_in (shape_of l) word ≡ Some z) ↔ Writes l word z

pub word_there : WordsSay → (t : TypeTree) (l : LogicalType) (word : List ℕ) (z : ℤ) (x : Scalar) → Writes l word z → cell_of x ≡ logical_cell t (shape_of l) z → Some (exactly (cell_of x)) ≡ written_value t (shape_of l) word
word_there says t l word z x w e = ap (λ (c : Cell). Some (exactly c)) e ∙ sym (ap (option_map (λ (y : ℤ). exactly (logical_cell t (shape_of l) y))) ((says l word z).1 w))

pub word_absent : WordsSay → (t : TypeTree) (l : LogicalType) (word : List ℕ) → ((z : ℤ) → Writes l word z → ⊥) → ◌≡◌ {A = Option PositionTree} None (written_value t (shape_of l) word)
word_absent says t l word none = by_storage (storage_in (shape_of l) word) refl
  where
    by_storage : (o : Option ℤ) → storage_in (shape_of l) word ≡ o → ◌≡◌ {A = Option PositionTree} None (option_map (λ (y : ℤ). exactly (logical_cell t (shape_of l) y)) (storage_in (shape_of l) word))
    by_storage None h = sym (ap (option_map (λ (y : ℤ). exactly (logical_cell t (shape_of l) y))) h)
    by_storage (Some z) h = absurd (none z ((says l word z).0 h))

nothing_written : WordsSay → (l : LogicalType) (word : List ℕ) → ((z : ℤ) → Writes l word z → ⊥) → storage_in (shape_of l) word ≡ None
nothing_written says l word none = by_storage (storage_in (shape_of l) word) refl
  where
    by_storage : (o : Option ℤ) → storage_in (shape_of l) word ≡ o → o ≡ None
    by_storage None h = refl
    by_storage (Some z) h = absurd (none z ((says l word z).0 h))

pub instant_zoned : WordsSay → (unit : TimeUnit) (word : List ℕ) (z : ℤ) → Writes (Timestamp unit true) word z → Some z ≡ instant_in unit word
instant_zoned says unit word z w = sym (ap (λ (o : Option ℤ). option_or o (storage_in (timestamps unit false) word)) ((says (Timestamp unit true) word z).1 w))

pub instant_plain : WordsSay → (unit : TimeUnit) (word : List ℕ) (r : Option ℤ) → ((z : ℤ) → Writes (Timestamp unit true) word z → ⊥)
    → IfSome r (Writes (Timestamp unit false) word) → IfNone r ((z : ℤ) → ¬ (Writes (Timestamp unit false) word z)) → r ≡ instant_in unit word
instant_plain says unit word r none some lacks =
    plain r some lacks ∙ sym (ap (λ (o : Option ℤ). option_or o (storage_in (timestamps unit false) word)) (nothing_written says (Timestamp unit true) word none))
  where
    plain : (o : Option ℤ) → IfSome o (Writes (Timestamp unit false) word) → IfNone o ((z : ℤ) → ¬ (Writes (Timestamp unit false) word z)) → o ≡ storage_in (timestamps unit false) word
    plain None some lacks = sym (nothing_written says (Timestamp unit false) word lacks)
    plain (Some z) some lacks = sym ((says (Timestamp unit false) word z).1 some)

-- ---- places

pub place_there : (k : PType) (word : List ℕ) (place : DecimalPlace) (p : Position) → Some place ≡ place_in 38 0 word → position_tree p ≡ integer_at k place → Some (position_tree p) ≡ integer_in k word
place_there k word place p e h = ap Some h ∙ ap (option_map (integer_at k)) e

pub place_absent : (k : PType) (word : List ℕ) → ◌≡◌ {A = Option DecimalPlace} None (place_in 38 0 word) → ◌≡◌ {A = Option PositionTree} None (integer_in k word)
place_absent k word e = ap (option_map (integer_at k)) e

pub ruleset places = (place_there, place_absent)

pub by_place : (f : DecimalPlace → PositionTree) (o : Option DecimalPlace) (place : DecimalPlace) (r : Result (Option Position) FilterError) → Some place ≡ o → Stands (Some (f place)) r → Stands (option_map f o) r
by_place f o place r e h = subst (λ (q : Option DecimalPlace). Stands (option_map f q) r) e h

pub no_place : (f : DecimalPlace → PositionTree) (o : Option DecimalPlace) → None ≡ o → ◌≡◌ {A = Option PositionTree} None (option_map f o)
no_place f o e = ap (option_map f) e

-- ---- integers

pub has_number : (k : PType) (z : ℤ) (v : PValue) → IsNumber k z v → true ≡ in_range k z
has_number k z v n = sym (in_range_true k z n.2)

pub has_none : (k : PType) (z : ℤ) → ¬ (InRange k z) → false ≡ in_range k z
has_none k z n = sym (in_range_false k z n)

pub ruleset had = (has_number, has_none)

abbrev gap_of : PType → ℤ → Bool → PositionTree
gap_of k z b = cond b (just_above (number_cell k z)) (lacking (int_cmp (pos 0) z))

pub gap_above : (k : PType) (z w : ℤ) (v : PValue) (b : Bool) → w ≡ z +ℤ pos 1 → b ≡ in_range k w → b ≡ true → IsNumber k z v → just_above (number_cell k z) ≡ gap_position k z
gap_above k z w v b e h t n =
    let both : (in_range k z && in_range k (z +ℤ pos 1)) ≡ true = rw (in_range_true k z n.2) (ap (in_range k) (sym e) ∙ sym h ∙ t) in
    sym (ap (gap_of k z) both)

pub gap_last : (k : PType) (z w : ℤ) (b : Bool) → w ≡ z +ℤ pos 1 → b ≡ in_range k w → b ≡ false → lacking (int_cmp (pos 0) z) ≡ gap_position k z
gap_last k z w b e h t =
    let last : in_range k (z +ℤ pos 1) ≡ false = ap (in_range k) (sym e) ∙ sym h ∙ t in
    sym (ap (λ (c : Bool). gap_of k z (in_range k z && c)) last ∙ ap (gap_of k z) (and_false (in_range k z)))
  where
    and_false : (c : Bool) → (c && false) ≡ false
    and_false true = refl
    and_false false = refl

pub gap_none : (k : PType) (z : ℤ) → ¬ (InRange k z) → lacking (int_cmp (pos 0) z) ≡ gap_position k z
gap_none k z n = sym (ap (λ (c : Bool). gap_of k z (c && in_range k (z +ℤ pos 1))) (in_range_false k z n))

pub ruleset gaps = (gap_above, gap_last, gap_none)
