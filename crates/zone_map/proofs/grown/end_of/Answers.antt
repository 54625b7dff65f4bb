-- The last zone ends where the zones do.
use Rattle.std.proofs.Common.{◌≡◌, ◌-◌, Some, arith, length, sym}
use Rattle.std.specs.Prelude.{slice_get}
use Rattle.zone_map.proofs.Joining.{last_end}
use Rattle.zone_map.proofs.grown.end_of.Goals as goal

pub returns-in-Some-clause-follow : goal.returns-in-Some-clause-follow
returns-in-Some-clause-follow c = λ end follow.
    let zones = c.args.zones.now in
    let zone = c.in-Some.zone.now in
    let at : slice_get zones (length zones - 1) ≡ Some zone = sym c.in-Some.ensures.value in
    omega (arith, last_end c.args.start end zones zone at follow, c.saturating_add.ensures)
