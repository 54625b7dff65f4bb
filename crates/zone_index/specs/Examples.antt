-- Worked cases of the definitions, each a theorem.
use Rattle.std.specs.Prelude.{◌≡◌, codes, refl}
use Rattle.std.specs.Str.{bytes_eq}
use Rattle.zone_index.specs.Records.{kept_of}
use Rattle.zone_index.specs.Zones.{way_by}
use Rattle.zone_index.specs.declared.records.Decision.TheVariants as decisions
use Rattle.zone_index.specs.declared.zones.Way.TheVariants as ways

-- what matches is kept whole, with its line feed
pub kept-whole : kept_of 44 (bytes_eq (codes "b\n")) (codes "a\nb\nb") ≡ codes "b\n"
kept-whole = refl

-- a zone of which each row matches is copied only if each record has a row
pub copied : way_by decisions.AllMatch 3 3 ≡ ways.Copy
copied = refl

pub searched-for-empty-lines : way_by decisions.AllMatch 3 2 ≡ ways.Search
searched-for-empty-lines = refl

pub skipped : way_by decisions.NoneMatch 3 2 ≡ ways.Skip
skipped = refl
