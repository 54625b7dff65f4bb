-- The types so far.
use Rattle.std.proofs.Common.{◌≡◌, map, take}
use Rattle.vortex_dtype.specs.TypeOf.{type_of}
use Rattle.vortex_c.specs.FilterSql.{types_of_kinds}
use Rattle.vortex_c.proofs.sql.types_of.Given as goal

abbrev pub invariant-loop-column : goal.invariant-loop-column
invariant-loop-column l = map type_of l.types.items ≡ types_of_kinds (take l.column-index l.columns)
