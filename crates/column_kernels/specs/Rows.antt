-- The rows of columns that were read, and what tests say of their contents.
use Rattle.std.specs.Prelude.{ℕ, ℤ, ◌≤◌, ◌||◌, Bool, false, true, not, nat_le, List, length, map, slice_index_or, Option, None, Some, if◌then◌else◌}
use Rattle.std.specs.List.{All}
use Rattle.arrow_columns.specs.declared.formats.Format.{Format}
use Rattle.arrow_columns.specs.declared.formats.Format.TheVariants as formats
use Rattle.arrow_columns.specs.declared.tested_rows.Rows.{Rows}
use Rattle.column_cells.specs.Contents.{HasTexts, contents_of_rows}
use Rattle.column_cells.specs.Types.{type_of_rows}
use Rattle.vortex_cells.specs.Cells.{Cell, is_null_content}
use Rattle.vortex_filter.specs.Formula.{order_truth}
use Rattle.vortex_filter.specs.declared.operator.CompareOperator.{CompareOperator}
use Rattle.vortex_filter.specs.declared.truth.Truth.{Truth}
use Rattle.vortex_filter.specs.declared.truth.Truth.TheVariants.{False, Unknown, True}
use Rattle.vortex_value.specs.Order.{order}
use Rattle.vortex_value.specs.Values.Content.{Content, null, string, text, truth, whole}

-- a truth as words have it
abbrev pub option_of : Truth → Option Bool
option_of False = Some false
option_of Unknown = None
option_of True = Some true

-- ---- rows

-- the content of a row of a column that was read
abbrev pub content_of_row : Rows → ℕ → Content
content_of_row rows row = slice_index_or (contents_of_rows rows) row null

-- the cell of a row of a column that was read
abbrev pub cell_of_row : Rows → ℕ → Cell
cell_of_row rows row = record { typed = type_of_rows rows; content = content_of_row rows row }

-- the cells of a row of columns that were read
abbrev pub cells_of_row : List Rows → ℕ → List Cell
cells_of_row columns row = map (λ rows. cell_of_row rows row) columns

-- each column has the rows before this one
abbrev pub HaveRowsTo : ℕ → List Rows → Type 0
HaveRowsTo end columns = All (λ rows. end ≤ length (contents_of_rows rows)) columns

-- each column has strings that are UTF-8, and values of its type
abbrev pub HaveTexts : List Rows → Type 0
HaveTexts columns = All HasTexts columns

-- ---- contents of one type

-- what a comparison of two contents says: Unknown if one of them is null
abbrev pub content_compared : CompareOperator → Content → Content → Truth
content_compared op c d = if (is_null_content c || is_null_content d) then Unknown else order_truth op (order c d)

-- the integer, the boolean, the string and the bytes that a content is, if it is one
abbrev pub number_in : Content → Option ℤ
number_in (whole z) = Some z
number_in _ = None

abbrev pub bool_in : Content → Option Bool
bool_in (truth b) = Some b
bool_in _ = None

abbrev pub text_in : Content → Option (List ℕ)
text_in (text bytes) = Some bytes
text_in _ = None

abbrev pub bytes_in : Content → Option (List ℕ)
bytes_in (string bytes) = Some bytes
bytes_in _ = None

-- whether bytes store the numbers of a format, and not the numbers themselves
abbrev pub stores_bytes : Format → Bool
stores_bytes (formats.Decimal width precision scale) = not (nat_le precision 18)
stores_bytes _ = false
