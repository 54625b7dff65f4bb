-- A zone more, and all of them.
use Rattle.std.proofs.Common.{◌++◌, List, ◌∙◌, ap, rules, subst}
use Rattle.std.specs.List.{flat_map, AllByRecursion}
use Rattle.zone_index.specs.Encoding.{FitsZone, ZoneValue, zone_encoding, zone_value}
use Rattle.zone_index.proofs.WriteSteps.{all_more, all_taken, encoding_more, taken_more}
use Rattle.zone_index.proofs.writing.push_zones.Goals as goal

pub loop-zone-preserved : goal.loop-zone-preserved
loop-zone-preserved c =
    let more = taken_more zone_value c.args.zones.now c.loop-zone.zone-index c.zone-item.result (search rules) c.zone-item.is in
    (encoding_more zone_encoding c.args.output.now.items _ _ _ _ (zone_value c.zone-item.result) more c.loop-zone.invariant.0 c.in_ok-push_zone.ensures.pushed, all_more FitsZone _ _ (zone_value c.zone-item.result) more c.loop-zone.invariant.1 c.in_ok-push_zone.ensures.fits)

pub returns-clause-pushed : goal.returns-clause-pushed
returns-clause-pushed c = c.loop-zone.invariant.0 ∙ ap (λ (zs : List ZoneValue). c.args.output.now.items ++ flat_map zone_encoding zs) (all_taken zone_value c.args.zones.now c.loop-zone.zone-index (search rules))

pub returns-clause-fits : goal.returns-clause-fits
returns-clause-fits c = subst (AllByRecursion FitsZone) (all_taken zone_value c.args.zones.now c.loop-zone.zone-index (search rules)) c.loop-zone.invariant.1
