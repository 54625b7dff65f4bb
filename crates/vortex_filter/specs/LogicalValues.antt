-- The values of logical types that cells are.
use Rattle.std.specs.Prelude.{◌≡◌, ℤ}
use Rattle.vortex_cells.specs.Cells.{Cell}
use Rattle.logical_scalars.specs.Stored.{IsOfLogicalType}
use Rattle.logical_types.specs.Extensions.{storage_type_of}
use Rattle.logical_types.specs.Words.{IsStorageOf}
use Rattle.logical_types.specs.declared.logical.LogicalType.{LogicalType}
use Rattle.vortex_filter.specs.Literals.{storage_content}

-- the cell is the value of a logical type with this storage
pub record IsLogicalValue (logical : LogicalType) (z : ℤ) (x : Cell) : Type 0 where
  pub typed : IsOfLogicalType x.typed logical
  pub value : IsStorageOf logical z
  pub stored : x.content ≡ storage_content (storage_type_of logical) z
