-- Which literals are values of their logical types.
use Rattle.std.proofs.Common.{◌≡◌, ◌≢◌, ◌⊎◌, ◌||◌, ◌<◌, ◌+◌, inl, inr, ℕ, suc, ℤ, Bool, true, false, List, length, drop, drop-cons, get_or, map, refl, sym, ap, ◌∙◌, arith}
use Rattle.std.specs.List.{list_any}
use Rattle.vortex_value.specs.Values.Content.{content, null}
use Rattle.vortex_value.specs.Values.RawTree.{RawTree, absent, is_absent}
use Rattle.vortex_value.specs.Values.Scalars.{scalar_raw, scalar_type}
use Rattle.vortex_value.specs.declared.scalars.Scalar.{Scalar}
use Rattle.vortex_cells.specs.Cells.{Cell, cell_of}
use Rattle.vortex_filter.specs.LogicalValues.{IsLogicalValue}
use Rattle.logical_scalars.specs.Stored.{IsOfLogicalType}
use Rattle.logical_types.specs.declared.logical.LogicalType.{LogicalType}
use Rattle.filter_encoding.specs.Encoding.{IsLogicallyValid}

-- of no logical type, null, or a value
pub valid_plain : (x : Cell) → ((l : LogicalType) → IsOfLogicalType x.typed l → ⊥) → IsLogicallyValid x
valid_plain x none = λ l is. absurd (none l is)

pub valid_null : (x : Cell) → x.content ≡ null → IsLogicallyValid x
valid_null x e = λ l is. inl e

pub valid_value : (x : Cell) (m : LogicalType) (z : ℤ) → IsLogicalValue m z x → IsLogicallyValid x
valid_value x m z v = λ l is. inr (m, z, v)

pub no_valid : (x : Cell) (l : LogicalType) → IsOfLogicalType x.typed l → x.content ≢ null → ((m : LogicalType) (z : ℤ) → IsLogicalValue m z x → ⊥) → IsLogicallyValid x → ⊥
no_valid x l of some none valid = by_case (valid l of)
  where
    by_case : (x.content ≡ null) ⊎ ((m : LogicalType) × (z : ℤ) × IsLogicalValue m z x) → ⊥
    by_case (inl e) = some e
    by_case (inr v) = none v.0 v.1 v.2

-- a test of each, through a function
pub any-at : {X Y : Type 0} (f : X → Y) (p : Y → Bool) (i : ℕ) (xs : List X) (x : X) → i < length xs → x ≡ get_or xs i x
    → list_any p (map f (drop i xs)) ≡ (p (f x) || list_any p (map f (drop (suc i) xs)))
any-at f p i xs x h is = let e = drop-cons xs i x h in rw (e, ← is) refl

or_true : (b c : Bool) → b ≡ true → (b || c) ≡ true
or_true b c h = rw h refl

or_rest : (b c : Bool) → b ≡ false → (b || c) ≡ c
or_rest b c h = rw h refl

-- the rest decides, if this one does not pass
pub any-rest : {X Y : Type 0} (f : X → Y) (p : Y → Bool) (i : ℕ) (xs : List X) (x : X) (b c : Bool) → i < length xs → x ≡ get_or xs i x → b ≡ p (f x) → b ≡ false
    → list_any p (map f (drop i xs)) ≡ c → list_any p (map f (drop (i + 1) xs)) ≡ c
any-rest f p i xs x b c less is e fails h =
    let one : i + 1 ≡ suc i = omega arith in
    ap (λ n. list_any p (map f (drop n xs))) one ∙ sym (or_rest (p (f x)) (list_any p (map f (drop (suc i) xs))) (sym e ∙ fails)) ∙ sym (any-at f p i xs x less is) ∙ h

-- one that passes decides
pub any-here : {X Y : Type 0} (f : X → Y) (p : Y → Bool) (i : ℕ) (xs : List X) (x : X) (b c : Bool) → i < length xs → x ≡ get_or xs i x → b ≡ p (f x) → b ≡ true
    → list_any p (map f (drop i xs)) ≡ c → true ≡ c
any-here f p i xs x b c less is e passes h = sym (or_true (p (f x)) (list_any p (map f (drop (suc i) xs))) (sym e ∙ passes)) ∙ sym (any-at f p i xs x less is) ∙ h

absent_null : (v : RawTree) → is_absent v ≡ true → content v ≡ null
absent_null absent e = refl
absent_null _ e = let no : false ≡ true = e in absurd cc

present_some : (v : RawTree) → is_absent v ≡ false → content v ≢ null
present_some absent e = let no : true ≡ false = e in absurd cc
present_some _ e = λ f. absurd cc

-- of a scalar
pub null_scalar : (x : Scalar) → is_absent (scalar_raw x) ≡ true → IsLogicallyValid (cell_of x)
null_scalar x e = valid_null (cell_of x) (absent_null (scalar_raw x) e)

pub no_value_scalar : (x : Scalar) (l : LogicalType) → IsOfLogicalType (scalar_type x) l → is_absent (scalar_raw x) ≡ false → ((m : LogicalType) (z : ℤ) → IsLogicalValue m z (cell_of x) → ⊥) → IsLogicallyValid (cell_of x) → ⊥
no_value_scalar x l of e none = no_valid (cell_of x) l of (present_some (scalar_raw x) e) none

pub ruleset scalars = (valid_plain, null_scalar, valid_value, no_value_scalar)
