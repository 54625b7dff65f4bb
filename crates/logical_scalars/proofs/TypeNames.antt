-- The logical type of a column's type by a function is what it is by the relation.
use Rattle.std.proofs.Common.{◌≡◌, ◌∙◌, ◌↔◌, ℕ, List, Option, Some, None, option_and_then, refl, subst, ap}
use Rattle.vortex_dtype.specs.TypeTree.{TypeTree, binary_type, extension_type, integer_type}
use Rattle.vortex_dtype.specs.declared.nullability.Nullability.{Nullability}
use Rattle.vortex_dtype.specs.declared.ptype.PType.{PType}
use Rattle.vortex_dtype.specs.declared.ptype.PType.TheVariants as PTypes
use Rattle.logical_scalars.specs.Stored.{IsOfLogicalType, storage_tree}
use Rattle.logical_scalars.specs.TypeShapes.{integer_kind, kind_of, shape_in}
use Rattle.logical_types.specs.Extensions.{IsExtension}
use Rattle.logical_types.specs.Shapes.{Shape, shape_of, shape_of_extension}
use Rattle.logical_types.specs.declared.extensions.StorageType.{StorageType}
use Rattle.logical_types.specs.declared.extensions.StorageType.TheVariants.{I32, I64, Bytes}
use Rattle.logical_types.specs.declared.logical.LogicalType.{LogicalType}

-- ---- storages

integer_stored : (p : PType) (n : Nullability) (k : StorageType) → integer_kind p ≡ Some k → (m : Nullability) × (integer_type p n ≡ storage_tree k m)
integer_stored PTypes.I32 n k e = let same : I32 ≡ k = cc in subst (λ (j : StorageType). (m : Nullability) × (integer_type PTypes.I32 n ≡ storage_tree j m)) same (n, refl)
integer_stored PTypes.I64 n k e = let same : I64 ≡ k = cc in subst (λ (j : StorageType). (m : Nullability) × (integer_type PTypes.I64 n ≡ storage_tree j m)) same (n, refl)
integer_stored _ n k e = absurd cc

stored_from : (t : TypeTree) (k : StorageType) → kind_of t ≡ Some k → (n : Nullability) × (t ≡ storage_tree k n)
stored_from (integer_type p n) k e = integer_stored p n k e
stored_from (binary_type n) k e = let same : Bytes ≡ k = cc in subst (λ (j : StorageType). (m : Nullability) × (binary_type n ≡ storage_tree j m)) same (n, refl)
stored_from _ k e = absurd cc

stored_to : (k : StorageType) (n : Nullability) → kind_of (storage_tree k n) ≡ Some k
stored_to I32 n = refl
stored_to I64 n = refl
stored_to Bytes n = refl

-- ---- types

found : (o : Option StorageType) (f : StorageType → Option Shape) (q : Shape) → option_and_then f o ≡ Some q → (k : StorageType) × (o ≡ Some k) × (f k ≡ Some q)
found None f q h = absurd cc
found (Some k) f q h = (k, refl, h)

-- the id, the metadata and the storage of a type that has a shape
pub record HasShape (t : TypeTree) (q : Shape) : Type 0 where
  pub id : List ℕ
  pub metadata : List ℕ
  pub kind : StorageType
  pub nullability : Nullability
  pub typed : t ≡ extension_type id metadata (storage_tree kind nullability)
  pub shaped : shape_of_extension id metadata kind ≡ Some q

shape_from : (t : TypeTree) (q : Shape) → shape_in t ≡ Some q → HasShape t q
shape_from (extension_type id m u) q h =
    let a = found (kind_of u) (shape_of_extension id m) q h in
    let s = stored_from u a.0 a.1 in
    record { id = id; metadata = m; kind = a.0; nullability = s.0; typed = ap (extension_type id m) s.1; shaped = a.2 }
shape_from _ q h = absurd cc

shape_to : (t : TypeTree) (q : Shape) → HasShape t q → shape_in t ≡ Some q
shape_to t q h =
    ap shape_in h.typed
    ∙ ap (option_and_then (shape_of_extension h.id h.metadata)) (stored_to h.kind h.nullability)
    ∙ h.shaped

-- what the law of extensions says
abbrev pub ExtensionsSay : Type 0
ExtensionsSay = (l : LogicalType) (id m : List ℕ) (k : StorageType) → (shape_of_extension id m k ≡ Some (shape_of l)) ↔ IsExtension id m k l

abbrev pub ShapesAre : Type 0
ShapesAre = (id m : List ℕ) (k : StorageType) (q : Shape) → shape_of_extension id m k ≡ Some q → (l : LogicalType) × (shape_of l ≡ q)

pub types_say : ExtensionsSay → (l : LogicalType) (t : TypeTree) → (shape_in t ≡ Some (shape_of l)) ↔ IsOfLogicalType t l
types_say say l t = (forth, back)
  where
    forth : shape_in t ≡ Some (shape_of l) → IsOfLogicalType t l
    forth h =
        let s = shape_from t (shape_of l) h in
        record { id = s.id; metadata = s.metadata; kind = s.kind; nullability = s.nullability; is = (say l s.id s.metadata s.kind).0 s.shaped; typed = s.typed }

    back : IsOfLogicalType t l → shape_in t ≡ Some (shape_of l)
    back w = shape_to t (shape_of l) (record { id = w.id; metadata = w.metadata; kind = w.kind; nullability = w.nullability; typed = w.typed; shaped = (say l w.id w.metadata w.kind).1 w.is })

pub types_are : ShapesAre → (t : TypeTree) (q : Shape) → shape_in t ≡ Some q → (l : LogicalType) × (shape_of l ≡ q)
types_are are t q h = let s = shape_from t q h in are s.id s.metadata s.kind q s.shaped
