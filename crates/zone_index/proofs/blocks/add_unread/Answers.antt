-- A zone more, and all of them.
use Rattle.std.proofs.Common.{List, [], ℕ, ap, arith, get_or, refl}
use Rattle.zone_index.specs.Encoding.{ZoneValue, bytes_encoding, with_statistics, with_unread, zone_value, zone_values}
use Rattle.zone_index.proofs.ReadSteps.{mapped_done, mapped_more}
use Rattle.zone_index.proofs.blocks.add_unread.Goals as goal

pub loop-zone-init : goal.loop-zone-init
loop-zone-init c = refl

pub loop-zone-preserved : goal.loop-zone-preserved
loop-zone-preserved c =
    mapped_more zone_value (λ (z : ZoneValue). with_statistics z (bytes_encoding [])) (with_unread (zone_values c.args.zones.now)) c.loop-zone.zones c.loop-zone.zone-index (record (get_or c.loop-zone.zones c.loop-zone.zone-index c.zone-item.result) { statistics = c.push_empty.new.output }) c.zone-item.result (omega (arith, c.loop-zone-test.true, c.loop-zone.auto.zones))
    (ap (λ (s : List ℕ). record (zone_value (get_or c.loop-zone.zones c.loop-zone.zone-index c.zone-item.result)) { statistics = s }) c.in_ok-push_empty.ensures) c.loop-zone.invariant

pub returns : goal.returns
returns c = mapped_done zone_value (λ (z : ZoneValue). with_statistics z (bytes_encoding [])) (with_unread (zone_values c.args.zones.now)) c.loop-zone.zones c.loop-zone.zone-index (omega (arith, c.loop-zone-test.false, c.loop-zone.auto.zones)) c.loop-zone.invariant
