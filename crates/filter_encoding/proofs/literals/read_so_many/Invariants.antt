-- So many were read, and they are valid.
use Rattle.std.proofs.Common.{map}
use Rattle.vortex_cells.specs.Cells.{cell_of}
use Rattle.vortex_filter.specs.FilterLiterals.{AreValid}
use Rattle.filter_encoding.specs.Encoding.{IsLiteral, literal_bytes}
use Rattle.filter_encoding.specs.Lists.{AreSo, each_bytes}
use Rattle.filter_encoding.specs.Strings.{HasRead, left}
use Rattle.filter_encoding.proofs.literals.read_so_many.Given as goal

abbrev pub invariant-loop-taken : goal.invariant-loop-taken
invariant-loop-taken l = HasRead (each_bytes literal_bytes) (AreSo l.taken IsLiteral) (map cell_of l.literals.items) (left l.initial.reader) (left l.reader) × AreValid l.literals.items
