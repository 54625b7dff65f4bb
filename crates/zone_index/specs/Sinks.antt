-- What a sink writes of the records that match.
use Rattle.std.specs.Prelude.{◌≡◌, ℕ, ◌+◌, ◌-◌, ◌^◌, min, List, [], ◌∷◌, ◌++◌, Bool, Option, codes, if◌then◌else◌}
use Rattle.std.specs.Fmt.{decimal}
use Rattle.std.specs.Io.KnownBytes.{Appends}
use Rattle.std.specs.List.{flat_map}
use Rattle.zone_index.specs.Zones.{zone_records}
use Rattle.zone_index.specs.declared.zones.Zone.{Zone}

-- a number, as far as 64 bits tell
abbrev pub told : ℕ → ℕ
told number = min number (2 ^ 64 - 1)

-- what is written of the records that match, in order, by what is written of a record with its number; the first of all has this number
abbrev pub written_of : (ℕ → List ℕ → List ℕ) → (List ℕ → Bool) → ℕ → List (List ℕ) → List ℕ
written_of written_as keep number [] = []
written_of written_as keep number (line ∷ lines) = (if keep line then written_as (told number) line else []) ++ written_of written_as keep (number + 1) lines

-- the same of the records of zones
abbrev pub written_in : (ℕ → List ℕ → List ℕ) → (List ℕ → Bool) → ℕ → ℕ → List ℕ → List Zone → List ℕ
written_in written_as keep number delimiter bytes zones = written_of written_as keep number (flat_map (zone_records delimiter bytes) zones)

-- a record as it stands
abbrev pub plain_record : ℕ → List ℕ → List ℕ
plain_record number line = line

-- a record after its number: NUMBER:RECORD
abbrev pub numbered_record : ℕ → List ℕ → List ℕ
numbered_record number line = (decimal number ++ codes ":") ++ line

-- each record is written as it stands
abbrev pub IsPlain : (ℕ → List ℕ → List ℕ) → Type 0
IsPlain written_as = (number : ℕ) (line : List ℕ) → written_as number line ≡ plain_record number line

-- a beginning of these bytes was written, and nothing else
abbrev pub WritesFirst : Option (List ℕ) → Option (List ℕ) → List ℕ → Type 0
WritesFirst old new bytes = (out rest : List ℕ) × (bytes ≡ out ++ rest) × Appends old new out
