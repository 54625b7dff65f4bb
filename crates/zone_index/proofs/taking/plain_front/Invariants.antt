-- The records so far.
use Rattle.std.proofs.Common.{◌≤◌, ◌-◌, length, take}
use Rattle.csv.specs.declared.parser.State.TheVariants.{StartRecord}
use Rattle.zone_index.specs.Taking.{AreWhole}
use Rattle.zone_index.proofs.taking.plain_front.Given as goal

abbrev pub invariant-loop-count : goal.invariant-loop-count
invariant-loop-count l = (l.end ≤ length l.bytes) × (l.count ≤ l.most) × AreWhole l.delimiter.byte StartRecord l.count (take l.end l.bytes)

abbrev pub decreases-loop-count : goal.decreases-loop-count
decreases-loop-count l = l.most - l.count
