-- What becomes of the zones of an index.
use Rattle.std.specs.Prelude.{ℕ, ◌+◌, List, [], ◌∷◌, Bool, not}
use Rattle.zone_index.specs.Sinks.{told}
use Rattle.zone_index.specs.Zones.{is_open, is_skip, way_of}
use Rattle.zone_index.specs.declared.records.Decision.{Decision}
use Rattle.zone_index.specs.declared.zones.Zone.{Zone}
use Rattle.zone_scans.specs.declared.planning.PlannedZone.{PlannedZone}
use Rattle.zone_scans.specs.declared.planning.Purpose.{Purpose}
use Rattle.zone_scans.specs.declared.planning.Purpose.TheVariants.{Count, Find}

-- a zone whose first record has this number, and what becomes of it by what statistics decide
abbrev pub planned_at : (List ℕ → Decision) → ℕ → Zone → PlannedZone
planned_at decides number z = record {
  range = record { place = z.first; length = z.length };
  records = z.records;
  rows = z.rows;
  number = number;
  decision = decides z.statistics.items;
  way = way_of decides z;
}

-- the same of zones, one after another
abbrev pub planned_from : (List ℕ → Decision) → ℕ → List Zone → List PlannedZone
planned_from decides number [] = []
planned_from decides number (z ∷ zones) = planned_at decides (told number) z ∷ planned_from decides (number + z.records) zones

-- whether a zone is to be read: if it is not skipped, or to count if its statistics decide nothing
abbrev pub is_read : Purpose → PlannedZone → Bool
is_read Find z = not (is_skip z.way)
is_read Count z = is_open z.decision
