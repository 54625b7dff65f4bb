-- The rows of the records that match.
use Rattle.std.specs.Prelude.{ℕ, List, filter}
use Rattle.record_rows.specs.declared.schema.Schema.{Schema}
use Rattle.record_search.specs.Searched.{matches_record, records_under, rows_under}
use Rattle.vortex_cells.specs.Cells.{Cell}
use Rattle.vortex_filter.specs.Formula.{Formula}

-- the rows of the records that match, in their order
abbrev pub matching_rows : Schema → Formula → List (List ℕ) → List (List Cell)
matching_rows s f records = rows_under s (filter (matches_record s f) records)

-- those of a text
abbrev pub matching_in : Schema → Formula → List ℕ → List (List Cell)
matching_in s f text = matching_rows s f (records_under s text)
