-- The zones so far.
use Rattle.std.proofs.Common.{◌≤◌, ◌-◌, ◌*◌, ℕ, length, take}
use Rattle.csv.specs.declared.parser.State.TheVariants.{StartRecord}
use Rattle.zone_index.specs.Taking.{AreWhole}
use Rattle.vortex_c.proofs.index_cuts.full_length.Given as goal

abbrev pub invariant-loop-length : goal.invariant-loop-length
invariant-loop-length l = (l.end ≤ length l.text) × ((zones : ℕ) × AreWhole l.delimiter.byte StartRecord (zones * l.size) (take l.end l.text))

abbrev pub decreases-loop-length : goal.decreases-loop-length
decreases-loop-length l = length l.text - l.end
