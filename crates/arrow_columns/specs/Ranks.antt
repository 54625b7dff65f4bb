-- Ranks of floats: integers that go up with the storages, and are quick to make of bits.
use Rattle.std.specs.Prelude.{ℕ, ℤ, pos, ◌+◌, ◌-◌, ◌+ℤ◌, if◌then◌else◌, int_lt}
use Rattle.std.specs.Float.{Format}
use Rattle.std.specs.Int.{int_min}
use Rattle.float_storage.specs.Storage.{infinity}
use lib.Ieee.{hid}

-- how many NaNs have a sign: the ranks below that of -infinity are too few for them, so theirs are above all others
abbrev pub signed_nans : Format → ℕ
signed_nans f = hid f - 1

-- the storage that has a rank: each zero has one of its own, and the NaNs have all above infinity's
abbrev pub storage_of_rank : Format → ℤ → ℤ
storage_of_rank f rank =
    let z = rank +ℤ pos (signed_nans f) in
    int_min (if int_lt z (pos 0) then z +ℤ pos 1 else z) (pos (infinity f + 1))
