-- One more, the first error, and all of them.
use Rattle.std.proofs.lemmas.Result.{err_from_is_err_and}
use Rattle.zone_index.specs.Encoding.{zone_value, zone_values}
use Rattle.zone_index.specs.EncodingReading.{many_at, zone_at}
use Rattle.zone_index.proofs.ReadSteps.{goes_on, ends, is_done}
use Rattle.zone_index.proofs.WriteSteps.{values_push}
use Rattle.zone_index.proofs.reading.zones_in.Goals as goal

pub returns-in_err-zone : goal.returns-in_err-zone
returns-in_err-zone c =
    let p = err_from_is_err_and c.from_residual.result c.from_residual.ensures.1 in
    rw (p.1, p.2) (ends zone_at c.in_err-zone.field-0.0 (zone_values c.loop.zones.items) c.args.count c.loop.counter c.loop.rest.now (many_at zone_at c.args.count c.args.bytes.now) c.loop-test.true c.in_err-zone.ensures c.loop.invariant)

pub loop-preserved : goal.loop-preserved
loop-preserved c =
    rw (values_push zone_value c.loop.zones.items c.push.new.self.items c.in_ok-zone.zone c.in_ok-push.ensures.items)
    (goes_on zone_at (zone_values c.loop.zones.items) c.args.count c.loop.counter c.loop.rest.now (zone_value c.in_ok-zone.zone) c.in_ok-zone.after.now (many_at zone_at c.args.count c.args.bytes.now) c.loop-test.true c.in_ok-zone.ensures c.loop.invariant)

pub returns : goal.returns
returns c = is_done zone_at (zone_values c.loop.zones.items) c.args.count c.loop.counter c.loop.rest.now (many_at zone_at c.args.count c.args.bytes.now) c.loop-test.false c.loop.invariant
