-- The records so far.
use Rattle.std.proofs.Common.{◌≤◌, ◌-◌, length, take}
use Rattle.csv.specs.declared.parser.State.TheVariants.{StartRecord}
use Rattle.zone_index.specs.Taking.{AreWhole}
use Rattle.vortex_c.proofs.index_cuts.zone_length.Given as goal

abbrev pub invariant-loop-count : goal.invariant-loop-count
invariant-loop-count l = (l.end ≤ length l.text) × (l.count ≤ l.size) × AreWhole l.delimiter.byte StartRecord l.count (take l.end l.text)

abbrev pub decreases-loop-count : goal.decreases-loop-count
decreases-loop-count l = l.size - l.count
