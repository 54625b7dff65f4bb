-- The types of columns of logical types, and their scalars.
use Rattle.std.specs.Prelude.{◌≡◌, ℤ, List, ℕ}
use Rattle.vortex_dtype.specs.TypeTree.{TypeTree, binary_type, extension_type, integer_type}
use Rattle.vortex_dtype.specs.declared.nullability.Nullability.{Nullability}
use Rattle.vortex_dtype.specs.declared.ptype.PType.TheVariants as PTypes
use Rattle.vortex_value.specs.Values.RawTree.{RawTree, raw_bytes, raw_integer}
use Rattle.vortex_value.specs.Values.Scalars.{scalar_raw, scalar_type}
use Rattle.vortex_value.specs.declared.scalars.Scalar.{Scalar}
use Rattle.logical_types.specs.Extensions.{IsExtension, id_of, metadata_of, storage_type_of}
use Rattle.logical_types.specs.Storing.{decimal_bytes}
use Rattle.logical_types.specs.Words.{IsStorageOf}
use Rattle.logical_types.specs.declared.extensions.StorageType.{StorageType}
use Rattle.logical_types.specs.declared.extensions.StorageType.TheVariants.{I32, I64, Bytes}
use Rattle.logical_types.specs.declared.logical.LogicalType.{LogicalType}

-- the type of storages
abbrev pub storage_tree : StorageType → Nullability → TypeTree
storage_tree I32 n = integer_type PTypes.I32 n
storage_tree I64 n = integer_type PTypes.I64 n
storage_tree Bytes n = binary_type n

-- the type of a column of a logical type
abbrev pub logical_tree : LogicalType → Nullability → TypeTree
logical_tree logical n = extension_type (id_of logical) (metadata_of logical) (storage_tree (storage_type_of logical) n)

-- the raw value that stores the number z
abbrev pub raw_storage : StorageType → ℤ → RawTree
raw_storage I32 z = raw_integer PTypes.I32 z
raw_storage I64 z = raw_integer PTypes.I64 z
raw_storage Bytes z = raw_bytes (decimal_bytes z)

-- the type is that of a column of the logical type; a zone may have any name
pub record IsOfLogicalType (t : TypeTree) (logical : LogicalType) : Type 0 where
  pub id : List ℕ
  pub metadata : List ℕ
  pub kind : StorageType
  pub nullability : Nullability
  pub is : IsExtension id metadata kind logical
  pub typed : t ≡ extension_type id metadata (storage_tree kind nullability)

-- the scalar is the value of a logical type that has this storage
pub record Holds (logical : LogicalType) (z : ℤ) (x : Scalar) : Type 0 where
  pub typed : IsOfLogicalType (scalar_type x) logical
  pub value : scalar_raw x ≡ raw_storage (storage_type_of logical) z
  pub is : IsStorageOf logical z
