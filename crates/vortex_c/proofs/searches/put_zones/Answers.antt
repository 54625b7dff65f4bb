-- A zone more, and all of them.
use Rattle.std.proofs.Common.{◌≡◌, ℕ, ap, arith, length, map, subst, take, take_all, ◌∙◌}
use Rattle.std.proofs.lemmas.List.{drop-set-lt, length-set}
use Rattle.vortex_c.specs.Searches.{zone_parts}
use Rattle.vortex_c.proofs.ZoneSteps.{zones_more}
use Rattle.vortex_c.proofs.searches.put_zones.Goals as goal

pub loop-place-preserved : goal.loop-place-preserved
loop-place-preserved c = record {
  put = zones_more c.args.planned.now c.loop-place.zones c.loop-place.place _ c.zone_parts.result c.loop-place-test.true (omega (arith, c.loop-place.invariant.long)) c.zone_parts.ensures c.loop-place.invariant.put;
  rest = drop-set-lt (length c.args.planned.now) c.loop-place.zones c.loop-place.place c.zone_parts.result (omega arith) ∙ c.loop-place.invariant.rest;
  long = length-set c.loop-place.zones c.loop-place.place c.zone_parts.result ∙ c.loop-place.invariant.long;
}

pub returns-clause-put : goal.returns-clause-put
returns-clause-put c =
    let at : c.loop-place.place ≡ length c.args.planned.now = omega arith in
    subst (λ (n : ℕ). take n c.loop-place.zones ≡ map zone_parts c.args.planned.now) at (c.loop-place.invariant.put ∙ ap (map zone_parts) (take_all c.loop-place.place c.args.planned.now (omega arith)))
