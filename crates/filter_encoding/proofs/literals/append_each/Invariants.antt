-- What is written, and what is left.
use Rattle.std.proofs.Common.{drop, map}
use Rattle.vortex_cells.specs.Cells.{cell_of}
use Rattle.filter_encoding.specs.Encoding.{IsHeldCell, IsPlainCell, literal_bytes}
use Rattle.filter_encoding.proofs.ListLaws.{IsLeft}
use Rattle.filter_encoding.proofs.literals.append_each.Given as goal

abbrev pub invariant-loop-literal : goal.invariant-loop-literal
invariant-loop-literal l = IsLeft literal_bytes IsHeldCell IsPlainCell (map cell_of (drop l.literal-index l.literals)) (map cell_of l.literals) l.initial.out.items l.out.items
