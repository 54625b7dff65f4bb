-- So many were read.
use Rattle.std.proofs.Common.{map}
use Rattle.filter_encoding.specs.Lists.{AreSo, each_bytes}
use Rattle.filter_encoding.specs.Patterns.{IsPart, part_bytes, part_of}
use Rattle.filter_encoding.specs.Strings.{HasRead, left}
use Rattle.filter_encoding.proofs.patterns.read_so_many.Given as goal

abbrev pub invariant-loop-taken : goal.invariant-loop-taken
invariant-loop-taken l = HasRead (each_bytes part_bytes) (AreSo l.taken IsPart) (map part_of l.parts.items) (left l.initial.reader) (left l.reader)
