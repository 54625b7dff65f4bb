-- What was taken, and the bytes that are left, lead on.
use Rattle.std.proofs.Common.{[], true, length}
use Rattle.csv.specs.declared.parser.State.TheVariants.{InQuoted}
use Rattle.csv_records.proofs.Fielding.{Leads}
use Rattle.csv_records.proofs.fields.cut_quoted.Given as goal

abbrev pub invariant-loop-quote : goal.invariant-loop-quote
invariant-loop-quote l = Leads l.delimiter.byte InQuoted [] true l.text InQuoted l.buffer.items true l.rest

abbrev pub decreases-loop-quote : goal.decreases-loop-quote
decreases-loop-quote l = length l.rest
