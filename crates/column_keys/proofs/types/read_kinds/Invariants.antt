-- The types so far.
use Rattle.std.proofs.Common.{◌≡◌, map, take}
use Rattle.vortex_dtype.specs.TypeOf.{type_of}
use Rattle.column_keys.specs.Types.{types_of_kinds}
use Rattle.column_keys.proofs.types.read_kinds.Given as goal

abbrev pub invariant-loop-column : goal.invariant-loop-column
invariant-loop-column l = map type_of l.read.items ≡ types_of_kinds (take l.column l.kinds)
