-- The records so far were judged.
use Rattle.std.proofs.Common.{◌≡◌, ◌≤◌, drop, length}
use Rattle.zone_scans.specs.Found.{IsJudged}
use Rattle.zone_scans.proofs.finding.find_records_until_fault.Given as goal

abbrev pub invariant-loop-rest : goal.invariant-loop-rest
invariant-loop-rest g l = record {
  judged : IsJudged (g.M.Records.delimiter l.matcher) (g.M.Matcher.matches l.matcher) (g.M.Records.is_refused l.matcher) l.fn.start l.text l.fn.is_end l.rest l.found l.count l.next;
  within : l.count ≤ length l.found;
  kept : drop l.count l.found ≡ drop l.count l.fn.found;
  long : length l.found ≡ length l.fn.found;
}

abbrev pub decreases-loop-rest : goal.decreases-loop-rest
decreases-loop-rest g l = length l.rest
