-- What stores a value is valid in a column of its type.
use Rattle.std.proofs.Common.{◌≡◌, ℤ, List, ℕ, refl, sym, subst}
use Rattle.vortex_dtype.specs.TypeTree.{TypeTree, extension_type}
use Rattle.vortex_dtype.specs.declared.nullability.Nullability.{Nullability}
use Rattle.vortex_value.specs.Validity.{Valid}
use Rattle.vortex_value.specs.Values.RawTree.{RawTree}
use Rattle.logical_scalars.specs.Stored.{IsOfLogicalType, raw_storage, storage_tree}
use Rattle.logical_types.specs.Extensions.{FitsStorage, storage_type_of}
use Rattle.logical_types.specs.declared.extensions.StorageType.{StorageType}
use Rattle.logical_types.specs.declared.extensions.StorageType.TheVariants.{I32, I64, Bytes}
use Rattle.logical_types.specs.declared.logical.LogicalType.{LogicalType}

by_kind : (id m : List ℕ) (kind : StorageType) (n : Nullability) (z : ℤ) → FitsStorage kind z → Valid (extension_type id m (storage_tree kind n)) (raw_storage kind z)
by_kind id m I32 n z f = (refl, f)
by_kind id m I64 n z f = (refl, f)
by_kind id m Bytes n z f = tt

pub stored_is_valid : (t : TypeTree) (l : LogicalType) (z : ℤ) → IsOfLogicalType t l → FitsStorage (storage_type_of l) z → Valid t (raw_storage (storage_type_of l) z)
stored_is_valid t l z w f =
    let same : Valid (extension_type w.id w.metadata (storage_tree (storage_type_of l) w.nullability)) (raw_storage (storage_type_of l) z) = by_kind w.id w.metadata (storage_type_of l) w.nullability z f in
    let kind : Valid (extension_type w.id w.metadata (storage_tree w.kind w.nullability)) (raw_storage (storage_type_of l) z) =
    subst (λ (k : StorageType). Valid (extension_type w.id w.metadata (storage_tree k w.nullability)) (raw_storage (storage_type_of l) z)) (sym w.is.stored) same in
    subst (λ (u : TypeTree). Valid u (raw_storage (storage_type_of l) z)) (sym w.typed) kind

-- the same of a type and a raw value that are these
pub column_is_valid : (t u : TypeTree) (v : RawTree) (l : LogicalType) (z : ℤ) → u ≡ t → v ≡ raw_storage (storage_type_of l) z → IsOfLogicalType t l → FitsStorage (storage_type_of l) z → Valid u v
column_is_valid t u v l z e h w f =
    subst (λ (s : TypeTree). Valid s v) (sym e) (subst (λ (x : RawTree). Valid t x) (sym h) (stored_is_valid t l z w f))

pub ruleset columns = (column_is_valid)
