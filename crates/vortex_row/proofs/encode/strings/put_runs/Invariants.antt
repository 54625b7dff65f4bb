-- What is written and what is left of the string, which gets shorter.
use Rattle.std.proofs.Common.{length}
use Rattle.vortex_row.specs.Keys.{escaped}
use Rattle.vortex_row.specs.Slots.{IsLeftAt}
use Rattle.vortex_row.proofs.encode.strings.put_runs.Given as goal

abbrev pub invariant-loop-end : goal.invariant-loop-end
invariant-loop-end l = IsLeftAt (escaped l.rest) (escaped l.bytes) l.start l.place l.initial.room l.room

abbrev pub decreases-loop-end : goal.decreases-loop-end
decreases-loop-end l = length l.rest
