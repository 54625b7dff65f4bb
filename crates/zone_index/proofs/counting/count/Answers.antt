-- A zone more, and all of them.
use Rattle.std.proofs.Common.{rules, arith, sym, subst, ℕ, List, Option}
use Rattle.std.proofs.lemmas.Result.{err_from_is_err_and}
use Rattle.zone_index.specs.Zones.{IsHeld, IsZoneOf, is_undecided, zone_records}
use Rattle.zone_index.proofs.Finding.{asks_part, at_item, cut_in_zone, far_in_zone, few_more, total_all, total_more, zones_far}
use Rattle.zone_index.proofs.Refusing.{refused_in_zone}
use Rattle.zone_index.proofs.Sifting.{first_in_zones, zone_sifted, zones_sifted}
use Rattle.zone_index.proofs.counting.count.Goals as goal

pub loop-zone-preserved : goal.loop-zone-preserved
loop-zone-preserved g c =
    let here = c.loop-zone.invariant.0 in
    let zones = c.args.zones.now in
    let i = c.loop-zone.zone-index in
    let item = c.zone-item.result in (
      search rules,
      λ was held right. total_more (g.M.Records.delimiter c.args.matcher.now) (g.M.Matcher.matches c.args.matcher.now) was zones i c.loop-zone.total c.in_ok-hits.hits c.in-Some.sum item (search rules) c.zone-item.is (c.loop-zone.invariant.1 was held right)
          (c.in_ok-hits.ensures.counted was (subst (λ (known : Option (List ℕ)). IsHeld known was) (sym here) held)
          (at_item (IsZoneOf (g.M.Records.delimiter c.args.matcher.now) (g.M.Records.has_row c.args.matcher.now) (g.M.Records.Describes c.args.matcher.now) was) zones i item (search rules) c.zone-item.is right)) (search rules),
      asks_part (g.M.Matcher.decides c.args.matcher.now) zones i item _ (g.R.ReadAt.asked c.loop-zone.reader) _ (search rules) c.zone-item.is c.loop-zone.invariant.2 c.in_ok-hits.ensures.asks,
      λ was right. few_more zones i c.loop-zone.total c.in_ok-hits.hits c.in-Some.sum item (search rules) c.zone-item.is (c.loop-zone.invariant.3 was right)
          (c.in_ok-hits.ensures.few was (at_item (IsZoneOf (g.M.Records.delimiter c.args.matcher.now) (g.M.Records.has_row c.args.matcher.now) (g.M.Records.Describes c.args.matcher.now) was) zones i item (search rules) c.zone-item.is right)) (search rules),
      λ was held right. zone_sifted (g.M.Records.is_refused c.args.matcher.now) (is_undecided (g.M.Matcher.decides c.args.matcher.now)) (zone_records (g.M.Records.delimiter c.args.matcher.now) was) zones i item (search rules) c.zone-item.is (c.loop-zone.invariant.4 was held right)
          (c.in_ok-hits.ensures.passed was (subst (λ (known : Option (List ℕ)). IsHeld known was) (sym here) held) (at_item (IsZoneOf (g.M.Records.delimiter c.args.matcher.now) (g.M.Records.has_row c.args.matcher.now) (g.M.Records.Describes c.args.matcher.now) was) zones i item (search rules) c.zone-item.is right)),
    )

pub returns-in_err-hits-clause-asks : goal.returns-in_err-hits-clause-asks
returns-in_err-hits-clause-asks g c =
    asks_part (g.M.Matcher.decides c.args.matcher.now) c.args.zones.now c.loop-zone.zone-index c.zone-item.result _ (g.R.ReadAt.asked c.loop-zone.reader) _ (search rules) c.zone-item.is c.loop-zone.invariant.2 c.in_err-hits.ensures.asks

pub returns-in-None-clause-asks : goal.returns-in-None-clause-asks
returns-in-None-clause-asks g c =
    asks_part (g.M.Matcher.decides c.args.matcher.now) c.args.zones.now c.loop-zone.zone-index c.zone-item.result _ (g.R.ReadAt.asked c.loop-zone.reader) _ (search rules) c.zone-item.is c.loop-zone.invariant.2 c.in_ok-hits.ensures.asks

pub returns-in-None-clause-answer : goal.returns-in-None-clause-answer
returns-in-None-clause-answer g c =
    let zones = c.args.zones.now in
    let i = c.loop-zone.zone-index in
    let item = c.zone-item.result in
    let d = g.M.Records.delimiter c.args.matcher.now in
    let has_row = g.M.Records.has_row c.args.matcher.now in
    let Describes = g.M.Records.Describes c.args.matcher.now in
    record {
      counted = tt;
      passed = tt;
      reading = λ e. absurd cc;
      stops = record {
        cut = λ e. absurd cc;
        far = λ far was start index. zones_far d has_row Describes was start zones i c.loop-zone.total c.in_ok-hits.hits item (search rules) c.zone-item.is index (c.loop-zone.invariant.3 was index.right)
            (c.in_ok-hits.ensures.few was (at_item (IsZoneOf d has_row Describes was) zones i item (search rules) c.zone-item.is index.right)) (omega (arith, c.in-None.ensures));
        refused = tt;
        first = tt;
      };
    }

pub returns-clause-answer : goal.returns-clause-answer
returns-clause-answer g c = record {
  counted = λ was start held index.
      total_all (g.M.Records.delimiter c.args.matcher.now) (g.M.Records.has_row c.args.matcher.now) (g.M.Records.Describes c.args.matcher.now) (g.M.Matcher.matches c.args.matcher.now) start c.args.zones.now was c.loop-zone.zone-index c.loop-zone.total (search rules) index (c.loop-zone.invariant.1 was held index.right);
  passed = λ was start held index. zones_sifted (g.M.Records.is_refused c.args.matcher.now) (is_undecided (g.M.Matcher.decides c.args.matcher.now)) (zone_records (g.M.Records.delimiter c.args.matcher.now) was) c.args.zones.now c.loop-zone.zone-index (search rules) (c.loop-zone.invariant.4 was held index.right);
  reading = tt;
  stops = tt;
}

pub returns-in_err-hits-clause-answer : goal.returns-in_err-hits-clause-answer
returns-in_err-hits-clause-answer g c =
    let p = err_from_is_err_and c.from_residual.result c.from_residual.ensures.1 in
    let before = c.loop-zone.invariant in
    let zones = c.args.zones.now in
    let i = c.loop-zone.zone-index in
    let item = c.zone-item.result in
    let d = g.M.Records.delimiter c.args.matcher.now in
    let has_row = g.M.Records.has_row c.args.matcher.now in
    let Describes = g.M.Records.Describes c.args.matcher.now in
    rw (p.1, p.2) (record {
      counted = tt;
      passed = tt;
      reading = c.in_err-hits.ensures.reading;
      stops = record {
        cut = λ short. cut_in_zone d has_row Describes _ (g.R.ReadAt.bytes c.loop-zone.reader) zones i item (search rules) c.zone-item.is before.0 (c.in_err-hits.ensures.cut short);
        far = λ past was start index. far_in_zone d has_row Describes zones i item was start (search rules) c.zone-item.is (c.in_err-hits.ensures.far past) index;
        refused = refused_in_zone (g.M.Records.Refuses c.args.matcher.now) d has_row Describes _ _ zones i item c.in_err-hits.field-0.0 (search rules) c.zone-item.is before.0 c.in_err-hits.ensures.refused;
        first = first_in_zones (g.M.Records.is_refused c.args.matcher.now) (is_undecided (g.M.Matcher.decides c.args.matcher.now)) d has_row Describes _ _ zones i item c.in_err-hits.field-0.0 (search rules) c.zone-item.is before.0 before.4 c.in_err-hits.ensures.first;
      };
    })
