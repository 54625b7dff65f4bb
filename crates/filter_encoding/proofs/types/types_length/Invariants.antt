-- The bytes before the types that are left.
use Rattle.std.proofs.Common.{drop, map}
use Rattle.vortex_dtype.specs.TypeOf.{type_of}
use Rattle.filter_encoding.proofs.NoValueLaws.{AreCounted}
use Rattle.filter_encoding.proofs.types.types_length.Given as goal

abbrev pub invariant-loop-dtype : goal.invariant-loop-dtype
invariant-loop-dtype l = AreCounted l.total (map type_of l.dtypes) (map type_of (drop l.dtype-index l.dtypes))
