-- Laws of rows and statistics in a search.
use Rattle.std.specs.Prelude.{◌≡◌, ◌↔◌, ◌++◌, ℕ, suc, List, [], ◌∷◌, Bool, not, Option, None, Some, Ok, length, map}
use Rattle.std.specs.Io.KnownBytes.{Appends}
use Rattle.std.specs.List.{AllPass}
use Rattle.csv_records.specs.Rows.{rows_of}
use Rattle.record_rows.specs.Cells.{column_type}
use Rattle.record_rows.specs.Readings.{Reading}
use Rattle.record_rows.specs.Rows.{IsRow}
use Rattle.record_rows.specs.declared.schema.ColumnType.{ColumnType}
use Rattle.vortex_filter.specs.Formula.{Formula}
use Rattle.filter_pruning.specs.Pruning.{column}
use Rattle.vortex_cells.specs.Cells.{Cell, cell_of}
use Rattle.vortex_statistics.specs.Statistics.{AreRight, Known, known}
use Rattle.vortex_statistics.specs.declared.column_statistics.ColumnStatistics.{ColumnStatistics}
use Rattle.vortex_value.specs.declared.scalars.Scalar.{Scalar}
use Rattle.statistics_bytes.specs.Pieces.{Says}
use Rattle.zone_index.specs.Encoding.{FitsEncoding, HavePieces, index_value, wanted_of, zone_values}
use Rattle.zone_index.specs.Records.{is_same}
use Rattle.zone_index.specs.Sinks.{written_of}
use Rattle.zone_index.specs.declared.encoding.Index.{Index}
use Rattle.zone_index.specs.declared.records.Decision.TheVariants.{AllMatch, NoneMatch}
use Rattle.zone_index.specs.declared.search.Tally.{Tally}
use Rattle.zone_index.specs.declared.zones.Zone.{Zone}
use Rattle.record_search.specs.Answers.{AnswersFindRows}
use Rattle.record_search.specs.Contents.{row_of}
use Rattle.record_search.specs.Decoding.{columns_in, statistics_in}
use Rattle.record_search.specs.Searched.{DescribeRows, DescribeRowsFully, IsCutOf, IsRowIndex, decision_of, has_row, matches_record, records_under, rows_under}
use Rattle.record_rows.specs.declared.schema.Schema.{Schema}

-- the computed row is the one that is read, whatever stands in place of a cell; without rows there is none
pub record RowsAreRead : Type 0 where
  pub row : (delimiter : ℕ) (reading : Reading) (columns : List ColumnType) (line : List ℕ) (row : List Scalar) (refused : ℕ)
      → IsRow delimiter reading columns line row refused → row_of delimiter reading columns line ≡ Some (map cell_of row)
  pub none : (delimiter : ℕ) (reading : Reading) (columns : List ColumnType) (line : List ℕ)
      → rows_of delimiter line ≡ [] → row_of delimiter reading columns line ≡ None

-- the computed statistics are those that the piece says
abbrev pub PiecesAreRead : Type 0
PiecesAreRead = (column : ColumnType) (piece : List ℕ) (s : Known) → (statistics_in column piece ≡ Some s) ↔ Says (column_type column) piece s

-- the statistics of each column, from this place on, are right for its cells in the rows, and say all that is to be known of them
-- with bounds cut to so many bytes
abbrev pub AreAllCut : ℕ → ℕ → List (List Cell) → List ColumnStatistics → Type 0
AreAllCut n k rows [] = Unit {0}
AreAllCut n k rows (s ∷ ss) = AreRight (known s) (column k rows) × IsCutOf n (column k rows) s × AreAllCut n (suc k) rows ss

-- such statistics, one of each column, are read of the bytes
pub record AreReadOf (n : ℕ) (s : Schema) (rows : List (List Cell)) (bytes : List ℕ) : Type 0 where
  pub statistics : List ColumnStatistics
  pub count : length statistics ≡ length s.columns.items
  pub read : columns_in s.columns.items bytes ≡ Some (map known statistics)
  pub each : AreAllCut n 0 rows statistics

-- what a describer says of records is read, and says of their rows what it is to say
abbrev pub DescribedIsRead : Type 0
DescribedIsRead = (n : ℕ) (s : Schema) (bytes : List ℕ) (records : List (List ℕ)) → DescribeRowsFully n s bytes records → AreReadOf n s (rows_under s records) bytes

-- the statistics of the zones of an index that is right for bytes are a piece for each column, which has an encoding
abbrev pub RightIndexesHavePieces : Type 0
RightIndexesHavePieces = (s : Schema) (start : ℕ) (zones : List Zone) (bytes : List ℕ) → IsRowIndex s start zones bytes → (pieces : List (List (List ℕ))) × HavePieces (length s.columns.items) (zone_values zones) pieces

-- where statistics that are right for records decide that none matches, none does, and where they decide that each does, each
-- does that has a row
pub record DecisionsAreRight : Type 0 where
  pub none : (s : Schema) (f : Formula) (bytes : List ℕ) (records : List (List ℕ))
      → decision_of s.columns.items f bytes ≡ NoneMatch → DescribeRows s bytes records
      → AllPass (λ line. not (matches_record s f line)) records
  pub all : (s : Schema) (f : Formula) (bytes : List ℕ) (records : List (List ℕ))
      → decision_of s.columns.items f bytes ≡ AllMatch → DescribeRows s bytes records
      → AllPass (λ line. is_same (matches_record s f line) (has_row s line)) records

-- what is read back of an index that was written is right for the bytes for which the index is, whichever columns are wanted
abbrev pub IndexesAreReadBack : Type 0
IndexesAreReadBack = (s : Schema) (n : ℕ) (pieces : List (List (List ℕ))) (wanted : List Bool) (written read : Index) (bytes : List ℕ) → FitsEncoding n (index_value written) pieces
    → index_value read ≡ wanted_of wanted (index_value written) pieces
    → IsRowIndex s written.start written.zones.items bytes → IsRowIndex s read.start read.zones.items bytes

-- where a search by an index that is right for the bytes has answered, it has written what a search of all records behind the
-- place of the first one writes
abbrev pub IndexesFindAll : Type 0
IndexesFindAll = (s : Schema) (f : Formula) (written_as : ℕ → List ℕ → List ℕ) (first start : ℕ) (zones : List Zone) (front bytes : List ℕ) (old new : Option (List ℕ)) (tally : Tally) → length front ≡ start
    → IsRowIndex s start zones (front ++ bytes) → AnswersFindRows s f written_as first zones (Some (front ++ bytes)) old new (Ok tally)
    → Appends old new (written_of written_as (matches_record s f) first (records_under s bytes))
