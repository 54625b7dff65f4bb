-- What a reader gave.
use Rattle.std.specs.Prelude.{ℕ, List, Option, ◌<◌, length}
use Rattle.std.specs.Io.KnownBytes.{Consumes}

-- some byte was read
abbrev pub GaveSome : Option (List ℕ) → Option (List ℕ) → Type 0
GaveSome old new = (bytes : List ℕ) × Consumes old new bytes × (0 < length bytes)
