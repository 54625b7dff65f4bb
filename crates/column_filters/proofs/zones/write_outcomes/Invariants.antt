-- The outcomes of the zones so far, and where the next one's pieces begin.
use Rattle.std.proofs.Common.{◌≡◌, ◌*◌, length, map}
use Rattle.vortex_dtype.specs.TypeOf.{type_of}
use Rattle.vortex_statistics.specs.Statistics.{known}
use Rattle.vortex_filter.specs.Formula.{formula}
use Rattle.column_filters.specs.Zones.{AreOthersOpen}
use Rattle.column_filters.proofs.ZoneSteps.{AreOutcomesBefore}
use Rattle.column_filters.proofs.zones.write_outcomes.Given as goal

abbrev pub invariant-loop-zone : goal.invariant-loop-zone
invariant-loop-zone l =
    (length l.read.items ≡ length l.types) × (l.piece ≡ l.zone * length l.types) × AreOthersOpen (formula l.filter) (map known l.read.items) × AreOutcomesBefore (formula l.filter) (map type_of l.types) l.statistics l.offsets l.zone l.outcomes
