-- The plan is told, or how long it is.
use Rattle.std.proofs.Common.{map, refl, subst, sym, ◌∙◌}
use Rattle.std.proofs.lemmas.List.{length-map}
use Rattle.zone_scans.specs.declared.planning.Purpose.{Purpose}
use Rattle.file_search.specs.Plans.{IsPlanFor}
use Rattle.vortex_c.specs.Searches.{purpose_of, zone_parts}
use Rattle.vortex_c.proofs.searches.doqallin_search_plan.Goals as goal

pub returns-in-Ok-clause-given : goal.returns-in-Ok-clause-given
returns-in-Ok-clause-given c = λ g.
    let is : IsPlanFor c.args.depth c.args.root.now c.args.blocks.now c.args.words.now (purpose_of c.args.is_count) c.in-Ok.plan =
    subst (λ (p : Purpose). IsPlanFor c.args.depth c.args.root.now c.args.blocks.now c.args.words.now p c.in-Ok.plan) c.purpose_of.ensures c.in-Ok.ensures.plan in
    record { plan = c.in-Ok.plan; is = is; zones_are = c.give_plan.ensures.zones_given g; ranges_are = c.give_plan.ensures.ranges_given g }

pub returns-in-Ok-clause-needed : goal.returns-in-Ok-clause-needed
returns-in-Ok-clause-needed c = λ has.
    let is : IsPlanFor c.args.depth c.args.root.now c.args.blocks.now c.args.words.now (purpose_of c.args.is_count) c.in-Ok.plan =
    subst (λ (p : Purpose). IsPlanFor c.args.depth c.args.root.now c.args.blocks.now c.args.words.now p c.in-Ok.plan) c.purpose_of.ensures c.in-Ok.ensures.plan in
    (map zone_parts c.in-Ok.plan.zones.items, c.in-Ok.plan.ranges.items, record { plan = c.in-Ok.plan; is = is; zones_are = refl; ranges_are = refl }, c.give_plan.ensures.zones ∙ sym (length-map c.in-Ok.plan.zones.items zone_parts), c.give_plan.ensures.ranges)
