-- The parts of what is told, one behind another.
use Rattle.std.proofs.Common.{refl}
use Rattle.std.proofs.Output.{has_written_append}
use Rattle.zone_map.proofs.telling.ToldDisplay.fmt.Goals as goal

pub returns-clause-writes : goal.returns-clause-writes
returns-clause-writes g c plain ok =
    let zones = c.in_ok-write.ensures.writes plain refl in
    let became = c.in_ok-write_zones.ensures zones.plain refl in
    let fresh = c.in_ok-write_new.ensures became.plain refl in
    let last = c.write-2.ensures.writes fresh.plain ok in
    has_written_append _ _ _ _ _ _ (has_written_append _ _ _ _ _ _ (has_written_append _ _ _ _ _ _ zones became) fresh) last
