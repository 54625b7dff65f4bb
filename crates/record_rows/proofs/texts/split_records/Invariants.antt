-- The records so far, and those of the rest.
use Rattle.std.proofs.Common.{◌≡◌, ◌++◌, length, map}
use Rattle.csv_records.specs.Records.{records_of}
use Rattle.record_rows.proofs.texts.split_records.Given as goal

abbrev pub invariant-loop-rest : goal.invariant-loop-rest
invariant-loop-rest l = map (λ line. line.now) l.records.items ++ records_of l.delimiter.byte l.rest ≡ records_of l.delimiter.byte l.text

abbrev pub decreases-loop-rest : goal.decreases-loop-rest
decreases-loop-rest l = length l.rest
