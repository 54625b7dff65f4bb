-- A zone more.
use Rattle.std.proofs.Common.{arith, rules}
use Rattle.zone_scans.proofs.PlanSteps.{planned_more}
use Rattle.zone_scans.proofs.planning.plan_zones.Goals as goal

pub loop-zone-preserved : goal.loop-zone-preserved
loop-zone-preserved g c = record {
  planned = planned_more (g.M.Matcher.decides c.args.matcher.now) c.args.first c.args.zones.now c.loop-zone.planned.items c.push.new.self.items c.loop-zone.number c.saturating_add-number.result c.loop-zone.zone-index c.zone-item.result c.in_ok-plan_zone.field-0 (search rules) c.zone-item.is c.loop-zone.invariant.fits c.in_ok-plan_zone.ensures c.in_ok-push.ensures.items c.saturating_add-number.ensures c.loop-zone.invariant.planned;
  fits = omega (arith, c.saturating_add-number.ensures);
}
