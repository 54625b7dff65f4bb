-- The zones so far, and those that follow.
use Rattle.std.proofs.Common.{◌<◌, ◌^◌}
use Rattle.zone_scans.proofs.PlanSteps.{ArePlannedSoFar}
use Rattle.zone_scans.proofs.planning.plan_zones.Given as goal

abbrev pub invariant-loop-zone : goal.invariant-loop-zone
invariant-loop-zone g l = record {
  planned : ArePlannedSoFar (g.M.Matcher.decides l.matcher) l.first l.zones l.planned.items l.number l.zone-index;
  fits : l.number < 2 ^ 64;
}
