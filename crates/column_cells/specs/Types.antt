-- The types of columns, by their kinds: each takes a null.
use Rattle.std.specs.Prelude.{◌≡◌, ℕ, List, [], ◌∷◌, Option, Some, None, codes, if◌then◌else◌, nat_le}
use Rattle.arrow_columns.specs.Columns.{kind_in}
use Rattle.arrow_columns.specs.declared.columns.Column.{Column}
use Rattle.arrow_columns.specs.declared.formats.Format.{Format}
use Rattle.arrow_columns.specs.declared.formats.Format.TheVariants as formats
use Rattle.arrow_columns.specs.declared.kinds.IntegerKind.{IntegerKind}
use Rattle.arrow_columns.specs.declared.kinds.IntegerKind.TheVariants as kinds
use Rattle.arrow_columns.specs.declared.kinds.Kind.{Kind}
use Rattle.arrow_columns.specs.declared.kinds.Kind.TheVariants.{Binary, Boolean, Integer, LargeBinary, LargeUtf8, Logical, Null, Utf8}
use Rattle.arrow_columns.specs.declared.tested_rows.Rows.{Rows}
use Rattle.arrow_columns.specs.declared.tested_rows.Rows.TheVariants.{Booleans, Bytes, Integers, Nulls, Strings, Values}
use Rattle.logical_scalars.specs.Stored.{logical_tree, storage_tree}
use Rattle.logical_types.specs.Extensions.{time_storage}
use Rattle.logical_types.specs.declared.extensions.StorageType.{StorageType}
use Rattle.logical_types.specs.declared.extensions.StorageType.TheVariants as storages
use Rattle.logical_types.specs.declared.logical.LogicalType.TheVariants as logical
use Rattle.vortex_dtype.specs.TypeOf.{ExtensionParts, extension_type_of}
use Rattle.vortex_dtype.specs.TypeTree.{Same, TypeTree, binary_type, bool_type, extension_type, integer_type, null_type, utf8_type}
use Rattle.vortex_dtype.specs.declared.nullability.Nullability.TheVariants.{Nullable}
use Rattle.vortex_dtype.specs.declared.ptype.PType.{PType}
use Rattle.vortex_dtype.specs.declared.ptype.PType.TheVariants.{U8, U16, U32, U64, I8, I16, I32, I64}

-- the integer type of a kind of integers
abbrev pub ptype_of_kind : IntegerKind → PType
ptype_of_kind kinds.U8 = U8
ptype_of_kind kinds.U16 = U16
ptype_of_kind kinds.U32 = U32
ptype_of_kind kinds.U64 = U64
ptype_of_kind kinds.I8 = I8
ptype_of_kind kinds.I16 = I16
ptype_of_kind kinds.I32 = I32
ptype_of_kind kinds.I64 = I64

-- what stores decimals of so many digits
abbrev pub decimal_storage : ℕ → StorageType
decimal_storage precision = if nat_le precision 18 then storages.I64 else storages.Bytes

-- what stores the values of a format
abbrev pub storage_of_format : Format → StorageType
storage_of_format formats.Float32 = storages.I32
storage_of_format formats.Float64 = storages.I64
storage_of_format formats.Date32 = storages.I32
storage_of_format (formats.Time unit) = time_storage unit
storage_of_format (formats.Timestamp unit is_zoned) = storages.I64
storage_of_format (formats.Decimal width precision scale) = decimal_storage precision

-- the type of decimals
abbrev pub decimal_tree : ℕ → ℕ → TypeTree
decimal_tree precision scale = extension_type (codes "doqallin.decimal") (precision ∷ scale ∷ []) (storage_tree (decimal_storage precision) Nullable)

-- the type of the cells of a column of a format: that of its logical type, whose zone, if it has one, is UTC
abbrev pub type_of_format : Format → TypeTree
type_of_format formats.Float32 = logical_tree logical.Float32 Nullable
type_of_format formats.Float64 = logical_tree logical.Float64 Nullable
type_of_format formats.Date32 = logical_tree logical.Date Nullable
type_of_format (formats.Time unit) = logical_tree (logical.Time unit) Nullable
type_of_format (formats.Timestamp unit is_zoned) = logical_tree (logical.Timestamp unit is_zoned) Nullable
type_of_format (formats.Decimal width precision scale) = decimal_tree precision scale

-- the type of the cells of a column of this kind
abbrev pub type_of_kind : Kind → TypeTree
type_of_kind (Integer kind) = integer_type (ptype_of_kind kind) Nullable
type_of_kind Boolean = bool_type Nullable
type_of_kind Utf8 = utf8_type Nullable
type_of_kind LargeUtf8 = utf8_type Nullable
type_of_kind Binary = binary_type Nullable
type_of_kind LargeBinary = binary_type Nullable
type_of_kind Null = null_type
type_of_kind (Logical format) = type_of_format format

-- the type of the cells of a column that can be read
abbrev pub type_of_rows : Rows → TypeTree
type_of_rows (Integers rows) = integer_type (ptype_of_kind rows.kind) Nullable
type_of_rows (Booleans rows) = bool_type Nullable
type_of_rows (Strings rows) = utf8_type Nullable
type_of_rows (Bytes rows) = binary_type Nullable
type_of_rows (Nulls count) = null_type
type_of_rows (Values rows) = type_of_format rows.format

-- the type of the cells of a column of this kind; of no kind, that of nulls
abbrev pub type_at : Option Kind → TypeTree
type_at None = null_type
type_at (Some kind) = type_of_kind kind

-- the type of the cells of a column, by the code of its kind
abbrev pub type_of_column : Column → TypeTree
type_of_column column = type_at (kind_in column)

-- the kind is of a logical type
abbrev pub IsLogical : Kind → Type 0
IsLogical (Logical format) = Unit {0}
IsLogical _ = ⊥

-- the rows are of a logical type
abbrev pub HasLogicalType : Rows → Type 0
HasLogicalType (Values rows) = Unit {0}
HasLogicalType _ = ⊥

-- the extension has this id, these metadata, and storages of this type up to nullability
pub record HasParts (id metadata : List ℕ) (storage : StorageType) (e : ExtensionParts) : Type 0 where
  pub named : e.id ≡ id
  pub described : e.metadata ≡ metadata
  pub stored : Same (storage_tree storage Nullable) e.storage

-- the type is such an extension
pub record IsExtensionOver (id metadata : List ℕ) (storage : StorageType) (t : TypeTree) : Type 0 where
  pub parts : ExtensionParts
  pub typed : t ≡ extension_type_of parts
  pub has : HasParts id metadata storage parts
