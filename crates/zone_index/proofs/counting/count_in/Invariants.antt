-- As many as match before the rest, and in it, match in all.
use Rattle.std.proofs.Common.{◌≡◌, ◌≤◌, ◌+◌, length, count_by}
use Rattle.csv_records.specs.Records.{records_of}
use Rattle.zone_index.specs.Records.{HaveRowsIf}
use Rattle.zone_index.proofs.Refusing.{IsReached}
use Rattle.zone_index.proofs.Sifting.{Sifted}
use Rattle.zone_index.proofs.counting.count_in.Given as goal

abbrev pub invariant-loop-rest : goal.invariant-loop-rest
invariant-loop-rest g l =
    (HaveRowsIf l.are_rows (g.M.Records.has_row l.matcher) (records_of (g.M.Records.delimiter l.matcher) l.text) → l.hits + count_by (g.M.Matcher.matches l.matcher) (records_of (g.M.Records.delimiter l.matcher) l.rest) ≡ count_by (g.M.Matcher.matches l.matcher) (records_of (g.M.Records.delimiter l.matcher) l.text))
    × (l.hits + length l.rest ≤ length l.text)
    × (HaveRowsIf l.are_rows (g.M.Records.has_row l.matcher) (records_of (g.M.Records.delimiter l.matcher) l.text) → Sifted (g.M.Records.is_refused l.matcher) (g.M.Records.delimiter l.matcher) l.text l.rest)
    × IsReached (g.M.Records.delimiter l.matcher) l.text l.rest
    × (HaveRowsIf l.are_rows (g.M.Records.has_row l.matcher) (records_of (g.M.Records.delimiter l.matcher) l.text) → HaveRowsIf l.are_rows (g.M.Records.has_row l.matcher) (records_of (g.M.Records.delimiter l.matcher) l.rest))

abbrev pub decreases-loop-rest : goal.decreases-loop-rest
decreases-loop-rest g l = length l.rest
