-- The records so far and those of the rest are all; the statistics are complete for the rows of the former, and their bounds valid
-- and of the types of their columns.
use Rattle.std.proofs.Common.{◌≡◌, ◌≤◌, ◌+◌, length}
use Rattle.csv_records.specs.Records.{records_of}
use Rattle.record_rows.specs.Observed.{HaveTypes}
use Rattle.zone_index.proofs.Refusing.{IsReached}
use Rattle.zone_index.proofs.Sifting.{Sifted}
use Rattle.record_search.specs.Searched.{AreAllValid, is_refused, longer_under, nulls_under, row_under}
use Rattle.record_search.proofs.ObserveLaws.{NullsSeen, Seen}
use Rattle.record_search.proofs.describing.observe_text.Given as goal

abbrev pub invariant-loop-rest : goal.invariant-loop-rest
invariant-loop-rest l =
    (l.records + length (records_of l.schema.delimiter.byte l.rest) ≡ length (records_of l.schema.delimiter.byte l.text))
    × Seen (row_under l.schema) l.schema.delimiter.byte l.text l.rest l.rows l.statistics
    × (l.records + length l.rest ≤ length l.text)
    × (l.rows ≤ l.records)
    × (length l.statistics ≡ length l.initial.statistics)
    × IsReached l.schema.delimiter.byte l.text l.rest
    × NullsSeen (nulls_under l.schema) l.schema.delimiter.byte l.text l.rest l.nulls
    × Sifted (is_refused l.schema) l.schema.delimiter.byte l.text l.rest
    × NullsSeen (longer_under l.schema) l.schema.delimiter.byte l.text l.rest l.longer
    × HaveTypes l.schema.columns.items l.statistics
    × AreAllValid l.statistics

abbrev pub decreases-loop-rest : goal.decreases-loop-rest
decreases-loop-rest l = length l.rest
