-- So many were read.
use Rattle.std.proofs.Common.{map}
use Rattle.vortex_dtype.specs.TypeOf.{type_of}
use Rattle.filter_encoding.specs.Encoding.{IsPlain, type_bytes}
use Rattle.filter_encoding.specs.Lists.{AreSo, each_bytes}
use Rattle.filter_encoding.specs.Strings.{HasRead, left}
use Rattle.filter_encoding.proofs.types.read_so_many.Given as goal

abbrev pub invariant-loop-taken : goal.invariant-loop-taken
invariant-loop-taken l = HasRead (each_bytes type_bytes) (AreSo l.taken IsPlain) (map type_of l.dtypes.items) (left l.initial.reader) (left l.reader)
