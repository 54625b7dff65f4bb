-- Values of columns that integers store.
use Rattle.std.specs.Prelude.{ℕ, List, Option, None, Some}
use Rattle.logical_types.specs.declared.extensions.StorageType.{StorageType}
use Rattle.logical_types.specs.declared.extensions.StorageType.TheVariants as storages
use Rattle.record_rows.specs.Cells.{Means, type_by}
use Rattle.record_rows.specs.declared.schema.Kind.{Kind}
use Rattle.vortex_dtype.specs.declared.nullability.Nullability.{Nullability}
use Rattle.vortex_dtype.specs.declared.ptype.PType.{PType}
use Rattle.vortex_dtype.specs.declared.ptype.PType.TheVariants as ptypes
use Rattle.vortex_pvalue.specs.Whole.{ptype_of, whole_of}
use Rattle.vortex_pvalue.specs.declared.pvalues.PValue.{PValue}
use Rattle.vortex_value.specs.Validity.{Valid}
use Rattle.vortex_value.specs.Values.Content.{whole}
use Rattle.vortex_value.specs.Values.RawTree.{RawTree, raw_integer}

-- the type of the integers of a storage
abbrev pub integer_of_storage : StorageType → Option PType
integer_of_storage storages.I32 = Some ptypes.I32
integer_of_storage storages.I64 = Some ptypes.I64
integer_of_storage storages.Bytes = None

-- the raw value of a number
abbrev pub raw_of_number : PValue → RawTree
raw_of_number number = raw_integer (ptype_of number) (whole_of number)

-- the word means this number, which is a valid value of the kind's types
pub record IsStoredNumber (kind : Kind) (word : List ℕ) (number : PValue) : Type 0 where
  pub means : Means kind word (whole (whole_of number))
  pub valid : (n : Nullability) → Valid (type_by kind n) (raw_of_number number)
