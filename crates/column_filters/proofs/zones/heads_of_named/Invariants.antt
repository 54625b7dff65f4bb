-- The heads of the columns so far.
use Rattle.std.proofs.Common.{◌≡◌, length, map}
use Rattle.vortex_dtype.specs.TypeOf.{type_of}
use Rattle.vortex_filter.specs.Formula.{formula}
use Rattle.column_filters.proofs.ZoneSteps.{AreHeadsBefore}
use Rattle.column_filters.proofs.zones.heads_of_named.Given as goal

abbrev pub invariant-loop-column : goal.invariant-loop-column
invariant-loop-column l = (length l.heads.items ≡ l.column) × AreHeadsBefore (formula l.filter) (map type_of l.types) l.column l.heads.items
