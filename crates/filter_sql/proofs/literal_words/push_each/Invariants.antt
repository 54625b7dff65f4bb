-- What the words of the literals that are left add, all of them do.
use Rattle.std.proofs.Common.{drop, map}
use Rattle.vortex_cells.specs.Cells.{cell_of}
use Rattle.filter_sql.specs.Choosing.{AddsEach}
use Rattle.filter_sql.specs.LiteralWords.{LiteralWords, word_trees}
use Rattle.filter_sql.proofs.literal_words.push_each.Given as goal

abbrev pub invariant-loop-literal : goal.invariant-loop-literal
invariant-loop-literal l =
    (now : LiteralWords) → AddsEach (map cell_of (drop l.literal-index l.literals)) (word_trees l.words.items) now → AddsEach (map cell_of l.literals) (word_trees l.initial.words.items) now
