use Rattle.std.proofs.Common.{drop, codes, map}
use Rattle.vortex_cells.specs.Cells.{cell_of}
use Rattle.vortex_value.proofs.Writes.{Joins}
use Rattle.filter_sql.specs.LiteralWords.{word_trees}
use Rattle.filter_sql.specs.Pieces.{literal_texts}
use Rattle.filter_sql.proofs.print.write_literals.Given as goal

abbrev pub invariant-loop-index : goal.invariant-loop-index
invariant-loop-index g l =
    Joins g.W.Write.write_str_gives (codes ", ") l.fn.f l.index (literal_texts (drop l.index (word_trees l.words)) (map cell_of (drop l.index l.literals))) (literal_texts (word_trees l.words) (map cell_of l.literals)) l.f
