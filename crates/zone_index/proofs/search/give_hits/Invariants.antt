-- What was taken so far and what is to be taken of the rest are what is to be taken of all, and so are their numbers.
use Rattle.std.proofs.Common.{◌≡◌, ◌<◌, ◌≤◌, ◌+◌, ◌++◌, ◌^◌, count_by, length}
use Rattle.csv_records.specs.Records.{records_of}
use Rattle.zone_index.specs.Records.{HaveRowsIf}
use Rattle.zone_index.specs.Sinks.{told, written_of}
use Rattle.zone_index.proofs.Refusing.{IsReached}
use Rattle.zone_index.proofs.Sifting.{Sifted}
use Rattle.zone_index.proofs.search.give_hits.Given as goal

abbrev pub invariant-loop-rest : goal.invariant-loop-rest
invariant-loop-rest g l = record {
  rows : HaveRowsIf l.are_rows (g.M.Records.has_row l.matcher) (records_of (g.M.Records.delimiter l.matcher) l.text) → HaveRowsIf l.are_rows (g.M.Records.has_row l.matcher) (records_of (g.M.Records.delimiter l.matcher) l.rest);
  taken : HaveRowsIf l.are_rows (g.M.Records.has_row l.matcher) (records_of (g.M.Records.delimiter l.matcher) l.text)
      → g.S.Sink.taken l.sink ++ written_of g.S.Sink.written_as (g.M.Matcher.matches l.matcher) l.number (records_of (g.M.Records.delimiter l.matcher) l.rest)
      ≡ written_of g.S.Sink.written_as (g.M.Matcher.matches l.matcher) l.start.number (records_of (g.M.Records.delimiter l.matcher) l.text);
  kept : g.S.Sink.contents l.sink ≡ g.S.Sink.contents l.fn.sink;
  counted : HaveRowsIf l.are_rows (g.M.Records.has_row l.matcher) (records_of (g.M.Records.delimiter l.matcher) l.text) → l.hits + count_by (g.M.Matcher.matches l.matcher) (records_of (g.M.Records.delimiter l.matcher) l.rest) ≡ count_by (g.M.Matcher.matches l.matcher) (records_of (g.M.Records.delimiter l.matcher) l.text);
  next : told (l.number + length (records_of (g.M.Records.delimiter l.matcher) l.rest)) ≡ told (l.start.number + length (records_of (g.M.Records.delimiter l.matcher) l.text));
  fits : l.number < 2 ^ 64;
  few : l.hits + length l.rest ≤ length l.text;
  sifted : HaveRowsIf l.are_rows (g.M.Records.has_row l.matcher) (records_of (g.M.Records.delimiter l.matcher) l.text) → Sifted (g.M.Records.is_refused l.matcher) (g.M.Records.delimiter l.matcher) l.text l.rest;
  reached : IsReached (g.M.Records.delimiter l.matcher) l.text l.rest;
}

abbrev pub decreases-loop-rest : goal.decreases-loop-rest
decreases-loop-rest g l = length l.rest
