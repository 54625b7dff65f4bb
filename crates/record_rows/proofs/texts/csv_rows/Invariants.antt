-- The rows so far, and those of what the reader has left.
use Rattle.std.proofs.Common.{◌≡◌, ◌<◌, ◌++◌, ℕ, List, [], Some, false, map, true}
use Rattle.csv.specs.Reading.{Ready, is_flexible, source_of, strip_bom}
use Rattle.csv.specs.Records.{fields_of}
use Rattle.csv.specs.declared.reader.Trim.TheVariants as trim
use Rattle.csv_records.specs.Laws.{texts_of}
use Rattle.csv_records.specs.Rows.{config_of, rows_from, rows_of}
use Rattle.record_rows.proofs.texts.csv_rows.Given as goal

abbrev pub invariant-loop-row : goal.invariant-loop-row
invariant-loop-row l =
    (l.row-iterator.rdr.trim ≡ trim.None) × Ready l.row-iterator.rdr × (0 < l.row-iterator.left) × (l.row-iterator.rdr.config ≡ config_of l.fn.delimiter.byte)
    × (y : List ℕ) × (source_of (λ s. Some s.now) l.row-iterator.rdr ≡ Some y)
    × (map fields_of l.rows.items ++ map texts_of (rows_from l.fn.delimiter.byte l.row-iterator.rdr.state [] false y) ≡ map texts_of (rows_of l.fn.delimiter.byte (strip_bom l.fn.text)))
    × (is_flexible l.row-iterator.rdr ≡ true)
