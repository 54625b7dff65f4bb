-- What was filled so far is what stands there.
use Rattle.std.proofs.Common.{◌≡◌, ◌≤◌, ◌-◌, ◌+◌, ℕ, List, Some, length, take, drop}
use Rattle.zone_index.specs.Asking.{AsksWithin}
use Rattle.zone_index.proofs.read_at.fill_from.Given as goal

abbrev pub invariant-loop-done : goal.invariant-loop-done
invariant-loop-done g l =
    (l.done ≤ length l.into)
    × (g.R.ReadAt.bytes l.reader ≡ g.R.ReadAt.bytes l.initial.reader)
    × ((xs : List ℕ) → g.R.ReadAt.bytes l.initial.reader ≡ Some xs → take l.done l.into ≡ take l.done (drop l.at xs))
    × AsksWithin (g.R.ReadAt.asked l.initial.reader) (g.R.ReadAt.asked l.reader) l.at (l.at + length l.initial.into)

abbrev pub decreases-loop-done : goal.decreases-loop-done
decreases-loop-done g l = length l.initial.into - l.done
