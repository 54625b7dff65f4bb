-- The last zone is taken away.
use Rattle.std.proofs.Common.{◌≡◌, ◌<◌, ◌-◌, List, Some, inl, length, rules, subst, sym}
use Rattle.std.specs.Prelude.{slice_get, vec_len}
use Rattle.zone_index.specs.declared.zones.Zone.{Zone}
use Rattle.zone_map.proofs.ZoneEnds.{has_last, reopened, some_listed}
use Rattle.zone_map.proofs.indexing.open_place.Goals as goal

pub returns : goal.returns
returns c =
    let old = c.args.zones.now.items in
    let zone = c.in-Some.zone.now in
    let at : slice_get old (length old - 1) ≡ Some zone =
    subst (λ (x : List Zone). slice_get x (length x - 1) ≡ Some zone) c.deref.ensures.value (sym c.in-Some.ensures.value) in
    let some : 0 < length old = has_last old zone at in
    let long : 0 < vec_len c.args.zones.now = search rules in
    inl (reopened c.args.zone_rows old c.pop.new.self.items c.pop.result zone at c.if-zone-zone_rows.false c.pop.ensures.items
    (some_listed c.pop.result (c.pop.ensures.variant.1 long)))
