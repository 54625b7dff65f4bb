-- How the bytes of an index begin.
use Rattle.std.specs.Prelude.{◌≡◌, ℕ, List, drop, take}
use Rattle.std.specs.Int.{from_le_bytes, w32}
use Rattle.zone_index.specs.declared.encoding.TheConstants.{MAGIC, VERSION}

-- the magic, and the version that is read here
pub record BeginsAsIndex (head : List ℕ) : Type 0 where
  pub magic : from_le_bytes w32 (take 4 head) ≡ MAGIC
  pub version : from_le_bytes w32 (take 4 (drop 4 head)) ≡ VERSION
