use Rattle.std.proofs.Common.{◌≡◌, drop}
use Rattle.vortex_dtype.specs.Refusals.{misses_a_name}
use Rattle.vortex_dtype.specs.TypeOf.{fields_of}
use Rattle.vortex_dtype.proofs.types.StructFields.misses_a_name.Given as goal

-- the rest of the names decides
abbrev pub invariant-loop-name : goal.invariant-loop-name
invariant-loop-name l = misses_a_name (fields_of l.self) (drop l.name-index l.names) ≡ misses_a_name (fields_of l.self) l.names
