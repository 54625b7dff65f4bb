-- Pieces of a file.
use Rattle.std.specs.Prelude.{◌≡◌, ◌≢◌, ◌<◌, ◌≤◌, ◌+◌, ◌^◌, ℕ, List, [], ◌∷◌, Some, drop, slice_get, take, true}
use Rattle.std.specs.List.{AllByRecursion, flat_map}
use Rattle.zone_scans.specs.Planning.{is_read}
use Rattle.zone_scans.specs.declared.planning.PlannedZone.{PlannedZone}
use Rattle.zone_scans.specs.declared.planning.Purpose.{Purpose}
use Rattle.zone_scans.specs.declared.ranges.ByteRange.{ByteRange}
use Rattle.zone_scans.specs.declared.ranges.RangeError.{RangeError}
use Rattle.zone_scans.specs.declared.ranges.RangeError.TheVariants.{Memory, TooFar}

-- the bytes of a range
abbrev pub range_bytes : List ℕ → ByteRange → List ℕ
range_bytes bytes r = take r.length (drop r.place bytes)

-- the bytes of ranges, one after another
abbrev pub bytes_of : List ℕ → List ByteRange → List ℕ
bytes_of bytes ranges = flat_map (range_bytes bytes) ranges

-- it has a byte, and ends where 64 bits tell
pub record IsFilled (r : ByteRange) : Type 0 where
  pub some : 0 < r.length
  pub near : r.place + r.length < 2 ^ 64

-- the last one ends here
abbrev pub EndAt : List ByteRange → ℕ → Type 0
EndAt [] place = ⊥
EndAt (r ∷ []) place = r.place + r.length ≡ place
EndAt (r ∷ s ∷ ranges) place = EndAt (s ∷ ranges) place

-- none begins where the one before it ends
abbrev pub AreApart : List ByteRange → Type 0
AreApart [] = Unit {0}
AreApart (r ∷ []) = Unit {0}
AreApart (r ∷ s ∷ ranges) = (r.place + r.length ≢ s.place) × AreApart (s ∷ ranges)

-- ranges that are not empty, and joined where they meet
pub record AreJoined (ranges : List ByteRange) : Type 0 where
  pub filled : AllByRecursion IsFilled ranges
  pub apart : AreApart ranges

-- no zone is to be read that ends so far
abbrev pub IsNear : Purpose → PlannedZone → Type 0
IsNear purpose z = is_read purpose z ≡ true → z.range.place + z.range.length < 2 ^ 64

-- the first zone that is to be read and ends at 2^64 or behind it
pub record IsFarAt (purpose : Purpose) (zones : List PlannedZone) (k : ℕ) : Type 0 where
  pub zone : PlannedZone
  pub is : slice_get zones k ≡ Some zone
  pub read : is_read purpose zone ≡ true
  pub far : 2 ^ 64 ≤ zone.range.place + zone.range.length
  pub first : (j : ℕ) (z : PlannedZone) → j < k → slice_get zones j ≡ Some z → IsNear purpose z

-- why there are no ranges
abbrev pub IsFarZone : Purpose → List PlannedZone → RangeError → Type 0
IsFarZone purpose zones Memory = Unit {0}
IsFarZone purpose zones (TooFar k) = IsFarAt purpose zones k
