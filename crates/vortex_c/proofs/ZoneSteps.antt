-- Zones that are told, one after another.
use Rattle.std.proofs.Common.{◌≡◌, ◌<◌, ◌+◌, ◌++◌, ◌∷◌, ℕ, List, [], ap, ap₂, ◌∙◌, sym, get_or, length, map, set, take}
use Rattle.std.proofs.lemmas.Grind.{take_at_read}
use Rattle.std.proofs.lemmas.List.{map-append, take_more_set}
use Rattle.zone_scans.specs.declared.planning.PlannedZone.{PlannedZone}
use Rattle.vortex_c.specs.Searches.{zone_parts}
use Rattle.vortex_c.specs.declared.searches.ZoneParts.{ZoneParts}

pub zones_more : (planned : List PlannedZone) (zones : List ZoneParts) (k : ℕ) (d : PlannedZone) (y : ZoneParts) → k < length planned → k < length zones → y ≡ zone_parts (get_or planned k d) → take k zones ≡ map zone_parts (take k planned) → take (k + 1) (set zones k y) ≡ map zone_parts (take (k + 1) planned)
zones_more planned zones k d y inside room is before =
    take_more_set zones k y room ∙ ap₂ (λ (xs : List ZoneParts) (x : ZoneParts). xs ++ x ∷ []) before is
    ∙ sym (map-append zone_parts (take k planned) (get_or planned k d ∷ [])) ∙ ap (map zone_parts) (sym (take_at_read planned k d inside).1)
