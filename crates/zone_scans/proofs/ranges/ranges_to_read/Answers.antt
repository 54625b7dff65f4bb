-- A zone more.
use Rattle.std.proofs.Common.{arith}
use Rattle.zone_scans.proofs.RangeSteps.{covers_more, near_more}
use Rattle.zone_scans.proofs.ranges.ranges_to_read.Goals as goal

pub loop-place-preserved : goal.loop-place-preserved
loop-place-preserved c = record {
  covers = λ bytes. covers_more bytes c.args.purpose c.args.zones.now c.loop-place.place _ c.is_read.result c.loop-place.ranges.items c.push_range.new.ranges.items c.loop-place-test.true c.is_read.ensures (c.loop-place.invariant.covers bytes) (c.in_ok-push_range.ensures.covers bytes);
  joined = c.in_ok-push_range.ensures.joined c.loop-place.invariant.joined;
  near = near_more c.args.purpose c.args.zones.now c.loop-place.place _ c.loop-place-test.true c.loop-place.invariant.near (c.is_far.ensures.no c.if-is_far.false);
}
