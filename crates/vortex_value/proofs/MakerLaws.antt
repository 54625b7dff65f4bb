-- What the makers of scalars make is valid.
use Rattle.std.proofs.Common.{◌≡◌, ℕ, ◌==◌, Bool, true, false, if◌then◌else◌, Option, Some, None, Result, Ok, Err, MatchResult, IfErr, IfOk, refl, sym, subst}
use Rattle.std.specs.Prelude.{position}
use Rattle.vortex_dtype.specs.TypeEquality.{tree_eq}
use Rattle.vortex_dtype.specs.Lemmas.TypeLaws.{tree_eq-Decides}
use Rattle.vortex_dtype.specs.TypeOf.{VariantParts, as_type_trees, type_of}
use Rattle.vortex_dtype.specs.TypeTree.{TypeTree, extension_type, IsNullable, as_nullable}
use Rattle.vortex_dtype.specs.declared.error.VortexError.{VortexError}
use Rattle.vortex_dtype.specs.declared.error.VortexError.TheVariants.{OutOfMemory, WrongChild}
use Rattle.vortex_dtype.specs.declared.types.DType.{DType}
use Rattle.vortex_value.specs.Makers.{child_cause, union_cause, tagged_cause}
use Rattle.vortex_value.specs.Values.RawOf.{raw_of}
use Rattle.vortex_value.specs.Values.RawTree.{RawTree, absent}
use Rattle.vortex_value.specs.Values.Scalars.{IsValid}
use Rattle.vortex_value.specs.Validity.{type_with, HasType, Valid}
use Rattle.vortex_value.specs.declared.scalars.Scalar.{Scalar}
use Rattle.vortex_value.specs.declared.values.ScalarValue.{ScalarValue}

-- nulls

pub null_valid : (t : TypeTree) → IsNullable t → Valid t absent
null_valid (extension_type id metadata t) h = null_valid t h
null_valid _ h = h

pub takes_null : (t : TypeTree) → IsNullable (as_nullable t)
takes_null (extension_type id metadata t) = takes_null t
takes_null _ = refl

-- children of exactly the expected type

exact : (b : Bool) (e : VortexError) → (if b then None else Some e) ≡ None → b ≡ true
exact true e h = refl
exact false e h = cc

pub child_fits : (index : ℕ) (expected found : TypeTree) → child_cause index expected found ≡ None → found ≡ expected
child_fits index expected found h = (tree_eq-Decides found expected).0 (exact (tree_eq found expected) _ h)

pub child_valid : (index : ℕ) (expected found : TypeTree) (v : RawTree) → child_cause index expected found ≡ None → Valid found v → Valid expected v
child_valid index expected found v h p = subst (λ t. Valid t v) (child_fits index expected found h) p

-- a union's child

tagged_valid : (id : ℕ) (place : Option ℕ) (expected : Option TypeTree) (found : TypeTree) (v : RawTree)
    → tagged_cause id place expected found ≡ None → Valid found v → HasType expected (λ t. Valid t v)
tagged_valid id (Some index) (Some expected) found v h p = child_valid index expected found v h p
tagged_valid id _ _ found v h p = cc

pub union_valid : (variants : VariantParts) (id : ℕ) (found : TypeTree) (v : RawTree) → union_cause variants id found ≡ None → Valid found v
    → HasType (type_with id variants.type_ids (as_type_trees variants.types)) (λ t. Valid t v)
union_valid variants id found v h p =
    tagged_valid id (position (λ i. i == id) variants.type_ids) (type_with id variants.type_ids (as_type_trees variants.types)) found v h p

-- a union's child is never refused as out of memory

child_spares : (b : Bool) (index : ℕ) → (if b then None else Some (WrongChild index)) ≡ Some OutOfMemory → ⊥
child_spares true index h = cc
child_spares false index h = cc

tagged_spares : (id : ℕ) (place : Option ℕ) (expected : Option TypeTree) (found : TypeTree) → tagged_cause id place expected found ≡ Some OutOfMemory → ⊥
tagged_spares id (Some index) (Some expected) found h = child_spares (tree_eq found expected) index h
tagged_spares id _ _ found h = cc

pub union_spares : (variants : VariantParts) (id : ℕ) (found : TypeTree) → union_cause variants id found ≡ Some OutOfMemory → ⊥
union_spares variants id found h =
    tagged_spares id (position (λ i. i == id) variants.type_ids) (type_with id variants.type_ids (as_type_trees variants.types)) found h

-- a scalar of a type and a raw value is valid where the value is

pub scalar_valid : (dtype : DType) (value : Option ScalarValue) (t : TypeTree) (v : RawTree) → type_of dtype ≡ t → raw_of value ≡ v → Valid t v
    → IsValid (record { dtype = dtype; value = value })
scalar_valid dtype value t v h k p = rw (h, k) p

-- the scalar of a type that was made, if one was

module _ (dtype : Result DType VortexError) (value : Option ScalarValue) (result : Result Scalar VortexError) where
  abbrev OfType : Type 0
  OfType = MatchResult dtype (λ d. result ≡ Ok (record { dtype = d; value = value })) (λ e. result ≡ Err e)

-- what holds with each type that is the stated one holds of what is answered
pub typed_with : (E : VortexError → Type 0) (dtype : Result DType VortexError) (value : Option ScalarValue) (result : Result Scalar VortexError) (t : TypeTree) (P : Scalar → Type 0)
    → OfType dtype value result → MatchResult dtype (λ d. type_of d ≡ t) E → ((d : DType) → type_of d ≡ t → P (record { dtype = d; value = value })) → IfOk result P
typed_with E (Ok d) value result t P is typed p = subst (λ r. IfOk r P) (sym is) (p d typed)
typed_with E (Err e) value result t P is typed p = subst (λ r. IfOk r P) (sym is) tt

-- what holds of each reason for no type holds of what is refused
pub untyped_with : (T : DType → Type 0) (E : VortexError → Type 0) (dtype : Result DType VortexError) (value : Option ScalarValue) (result : Result Scalar VortexError) (P : VortexError → Type 0)
    → OfType dtype value result → MatchResult dtype T E → ((e : VortexError) → E e → P e) → IfErr result P
untyped_with T E (Ok d) value result P is typed p = subst (λ r. IfErr r P) (sym is) tt
untyped_with T E (Err e) value result P is typed p = subst (λ r. IfErr r P) (sym is) (p e typed)

-- what holds with each raw value of this tree holds of the scalar of it
pub valued_with : (E : VortexError → Type 0) (dtype : DType) (value : Result (Option ScalarValue) VortexError) (result : Result Scalar VortexError) (v : RawTree) (P : Scalar → Type 0)
    → MatchResult value (λ x. result ≡ Ok (record { dtype = dtype; value = x })) (λ e. result ≡ Err e) → MatchResult value (λ x. raw_of x ≡ v) E
    → ((x : Option ScalarValue) → raw_of x ≡ v → P (record { dtype = dtype; value = x })) → IfOk result P
valued_with E dtype (Ok x) result v P is made p = subst (λ r. IfOk r P) (sym is) (p x made)
valued_with E dtype (Err e) result v P is made p = subst (λ r. IfOk r P) (sym is) tt
