-- Worked cases of the definitions, each a theorem.
use Rattle.std.specs.Prelude.{◌≡◌, ℕ, zero, suc, pos, List, [], ◌∷◌, Some, false, true, refl}
use Rattle.arrow_columns.specs.Bitmaps.{bit_of, bitmap_length}
use Rattle.vortex_dtype.specs.TypeTree.{integer_type}
use Rattle.vortex_dtype.specs.declared.nullability.Nullability.TheVariants.{NonNullable, Nullable}
use Rattle.vortex_dtype.specs.declared.ptype.PType.TheVariants.{I32}
use Rattle.vortex_value.specs.Values.Content.{null, whole}
use Rattle.vortex_cells.specs.Cells.{Cell}
use Rattle.vortex_statistics.specs.Statistics.{Known, KnownBound}
use Rattle.vortex_filter.specs.Formula.{Formula, comparison, null_test}
use Rattle.filter_pruning.specs.Outcomes.{outcomes}
use Rattle.vortex_filter.specs.declared.operator.CompareOperator.TheVariants.{Gte}
use Rattle.column_kernels.specs.Masks.{matching}
use Rattle.statistics_bytes.specs.Pieces.{nothing_known}
use Rattle.column_filters.specs.Zones.{outcomes_byte, piece_at}

-- ---- masks

-- a byte has a bit for each of 8 rows
lengths : bitmap_length 0 ∷ bitmap_length 1 ∷ bitmap_length 8 ∷ bitmap_length 9 ∷ [] ≡ 0 ∷ 1 ∷ 1 ∷ 2 ∷ []
lengths = refl

-- the first two rows match, and the tenth
bits : bit_of (3 ∷ 2 ∷ []) 0 ∷ bit_of (3 ∷ 2 ∷ []) 1 ∷ bit_of (3 ∷ 2 ∷ []) 2 ∷ bit_of (3 ∷ 2 ∷ []) 9 ∷ [] ≡ true ∷ true ∷ false ∷ true ∷ []
bits = refl

-- x >= 10, of an i32
abbrev number : ℕ → Cell
number n = record { typed = integer_type I32 NonNullable; content = whole (pos n) }

abbrev from_ten : Formula
from_ten = comparison 0 Gte (number 10)

-- rows of 12, a null and 3
abbrev rows : ℕ → List Cell
rows zero = record { typed = integer_type I32 Nullable; content = whole (pos 12) } ∷ []
rows (suc zero) = record { typed = integer_type I32 Nullable; content = null } ∷ []
rows (suc (suc row)) = record { typed = integer_type I32 Nullable; content = whole (pos 3) } ∷ []

-- only the first matches: a null does not
matches : matching from_ten rows 0 ∷ matching from_ten rows 1 ∷ matching from_ten rows 2 ∷ [] ≡ true ∷ false ∷ false ∷ []
matches = refl

-- ---- zones

-- pieces of 2, 0 and 3 bytes
pieces : piece_at (7 ∷ 8 ∷ 9 ∷ 10 ∷ 11 ∷ []) (0 ∷ 2 ∷ 2 ∷ 5 ∷ []) 0 ≡ 7 ∷ 8 ∷ []
pieces = refl

no_piece : piece_at (7 ∷ 8 ∷ 9 ∷ 10 ∷ 11 ∷ []) (0 ∷ 2 ∷ 2 ∷ 5 ∷ []) 1 ≡ []
no_piece = refl

last_piece : piece_at (7 ∷ 8 ∷ 9 ∷ 10 ∷ 11 ∷ []) (0 ∷ 2 ∷ 2 ∷ 5 ∷ []) 2 ≡ 9 ∷ 10 ∷ 11 ∷ []
last_piece = refl

-- what nothing is said of may be all three, and a test for a null is never unknown
all_open : outcomes_byte (outcomes from_ten (nothing_known ∷ [])) ∷ outcomes_byte (outcomes (null_test 0) (nothing_known ∷ [])) ∷ [] ≡ 7 ∷ 5 ∷ []
all_open = refl

-- two values from 3 to n, and no null
abbrev exactly : ℕ → KnownBound
exactly n = record { value = number n; is_exact = true }

abbrev from_three : ℕ → Known
from_three n = record { row_count = 2; null_count = Some 0; lower = Some (exactly 3); upper = Some (exactly n) }

-- up to 5 it is only false, and up to 12 both
decided : outcomes_byte (outcomes from_ten (from_three 5 ∷ [])) ∷ outcomes_byte (outcomes from_ten (from_three 12 ∷ [])) ∷ [] ≡ 1 ∷ 5 ∷ []
decided = refl
