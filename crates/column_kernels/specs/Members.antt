-- Which literals the rows of a column of strings, or of bytes, are equal to.
use Rattle.std.specs.Prelude.{◌≡◌, ℕ, ◌<◌, Any, List, length, Option, None}
use Rattle.std.specs.List.{All}
use Rattle.std.specs.Str.{bytes_eq}
use Rattle.arrow_columns.specs.declared.tested_rows.Rows.{Rows}
use Rattle.arrow_columns.specs.declared.tested_rows.Rows.TheVariants.{Bytes, Strings}
use Rattle.column_cells.specs.Contents.{contents_of_rows}
use Rattle.vortex_cells.specs.Cells.{cell_of}
use Rattle.vortex_filter.specs.Formula.{compare_truth}
use Rattle.vortex_filter.specs.declared.operator.CompareOperator.TheVariants.{Eq}
use Rattle.vortex_value.specs.declared.scalars.Scalar.{Scalar}
use Rattle.column_kernels.specs.Rows.{cell_of_row, option_of}
use Rattle.column_kernels.specs.Truths.{byte_cell, tested}
use Rattle.column_kernels.specs.declared.needles.Needle.{Needle}

-- the bytes of a row of a column of strings, or of bytes, if it is no null
abbrev pub bytes_of_row : Rows → ℕ → Option (List ℕ)
bytes_of_row (Strings rows) row = byte_cell rows.width rows.column row
bytes_of_row (Bytes rows) row = byte_cell rows.width rows.column row
bytes_of_row _ row = None

-- a row is equal to the literal exactly where its bytes are the needle's
abbrev pub IsNeedleOf : Rows → Scalar → Needle → Type 0
IsNeedleOf rows literal needle = (row : ℕ) → row < length (contents_of_rows rows)
    → option_of (compare_truth Eq (cell_of_row rows row) (cell_of literal)) ≡ tested (λ bytes. bytes_eq bytes needle.bytes.now) (bytes_of_row rows row)

-- there are literals, each has a needle, and each needle is one's
pub record AreNeedlesOf (rows : Rows) (literals : List Scalar) (needles : List Needle) : Type 0 where
  pub some : 0 < length literals
  pub each : All (λ literal. Any (IsNeedleOf rows literal) needles) literals
  pub no_others : All (λ needle. Any (λ literal. IsNeedleOf rows literal needle) literals) needles
