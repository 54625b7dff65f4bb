use Rattle.std.proofs.Common.{◌≡◌, take}
use Rattle.zone_index.specs.Sinks.{told}
use Rattle.zone_map.specs.Telling.{asked_length}
use Rattle.zone_map.proofs.telling.bytes_asked.Given as goal

abbrev pub invariant-loop-one : goal.invariant-loop-one
invariant-loop-one l = l.read ≡ told (asked_length (take l.one-index l.asked))
