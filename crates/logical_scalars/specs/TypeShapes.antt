-- The logical types of columns' types, as a function.
use Rattle.std.specs.Prelude.{Option, Some, None, option_and_then}
use Rattle.vortex_dtype.specs.TypeTree.{TypeTree, binary_type, extension_type, integer_type}
use Rattle.vortex_dtype.specs.declared.ptype.PType.{PType}
use Rattle.vortex_dtype.specs.declared.ptype.PType.TheVariants as PTypes
use Rattle.logical_types.specs.Shapes.{Shape, shape_of_extension}
use Rattle.logical_types.specs.declared.extensions.StorageType.{StorageType}
use Rattle.logical_types.specs.declared.extensions.StorageType.TheVariants as kinds

-- what integers of a type store
abbrev pub integer_kind : PType → Option StorageType
integer_kind PTypes.I32 = Some kinds.I32
integer_kind PTypes.I64 = Some kinds.I64
integer_kind _ = None

-- what a type of storages stores
abbrev pub kind_of : TypeTree → Option StorageType
kind_of (integer_type k n) = integer_kind k
kind_of (binary_type n) = Some kinds.Bytes
kind_of _ = None

-- the logical type that a type is
abbrev pub shape_in : TypeTree → Option Shape
shape_in (extension_type id metadata t) = option_and_then (shape_of_extension id metadata) (kind_of t)
shape_in _ = None
