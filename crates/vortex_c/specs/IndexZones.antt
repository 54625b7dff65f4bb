-- Zones of an index in numbers.
use Rattle.std.specs.Prelude.{◌≡◌, ℕ, List, [], ◌∷◌, drop, length, take}
use Rattle.zone_index.specs.Encoding.{FitsEncoding, IndexValue, ZoneValue, index_encoding}
use Rattle.zone_index.specs.declared.zones.Zone.{Zone}
use Rattle.vortex_c.specs.declared.index_zones.IndexZone.{IndexZone}

-- a zone in numbers
abbrev pub index_zone : Zone → IndexZone
index_zone z = record { first = z.first; length = z.length; records = z.records; rows = z.rows; statistics = length z.statistics.items }

-- zones with their statistics, which stand one behind another
abbrev pub zones_cut : List IndexZone → List ℕ → List ZoneValue
zones_cut [] statistics = []
zones_cut (z ∷ zones) statistics =
    record { first = z.first; length = z.length; records = z.records; rows = z.rows; statistics = take z.statistics statistics } ∷ zones_cut zones (drop z.statistics statistics)

-- the index of a file with this setup
abbrev pub index_of : List ℕ → ℕ → ℕ → ℕ → List IndexZone → List ℕ → IndexValue
index_of setup file_length changed start zones statistics = record { file_length = file_length; changed = changed; setup = setup; start = start; zones = zones_cut zones statistics }

-- the bytes are the encoding of an index, the statistics of whose zones are so many pieces
pub record IsWritten (columns : ℕ) (index : IndexValue) (bytes : List ℕ) : Type 0 where
  pub pieces : List (List (List ℕ))
  pub fits : FitsEncoding columns index pieces
  pub is : bytes ≡ index_encoding columns index pieces
