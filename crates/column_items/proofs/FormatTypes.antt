-- No variant stands in the type of a format.
use Rattle.std.proofs.Common.{ℕ, Bool, true, false, if◌then◌else◌, List, [], ◌∷◌, codes, nat_le}
use Rattle.arrow_columns.specs.declared.formats.Format.{Format}
use Rattle.arrow_columns.specs.declared.formats.Format.TheVariants.{Float32, Float64, Date32, Time, Timestamp, Decimal}
use Rattle.column_cells.specs.Types.{type_of_format}
use Rattle.logical_scalars.specs.Stored.{storage_tree}
use Rattle.logical_types.specs.declared.extensions.StorageType.TheVariants.{I64, Bytes}
use Rattle.logical_types.specs.declared.times.TimeUnit.{TimeUnit}
use Rattle.logical_types.specs.declared.times.TimeUnit.TheVariants.{Seconds, Milliseconds, Microseconds, Nanoseconds}
use Rattle.vortex_dtype.specs.TypeTree.{extension_type}
use Rattle.vortex_dtype.specs.declared.nullability.Nullability.TheVariants.{Nullable}
use Rattle.vortex_value.specs.TypesWithin.{HasNoVariant}

in_decimals : (b : Bool) (id metadata : List ℕ) → HasNoVariant (extension_type id metadata (storage_tree (if b then I64 else Bytes) Nullable))
in_decimals true id metadata = tt
in_decimals false id metadata = tt

in_times : (unit : TimeUnit) → HasNoVariant (type_of_format (Time unit))
in_times Seconds = tt
in_times Milliseconds = tt
in_times Microseconds = tt
in_times Nanoseconds = tt

pub no_variant_in : (format : Format) → HasNoVariant (type_of_format format)
no_variant_in Float32 = tt
no_variant_in Float64 = tt
no_variant_in Date32 = tt
no_variant_in (Time unit) = in_times unit
no_variant_in (Timestamp unit is_zoned) = tt
no_variant_in (Decimal width precision scale) = in_decimals (nat_le precision 18) (codes "doqallin.decimal") (precision ∷ scale ∷ [])
