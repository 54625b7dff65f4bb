use Rattle.std.proofs.Common.{codes, refl}
use Rattle.std.proofs.lemmas.List.{drop-drop, drop_more}
use Rattle.vortex_value.proofs.Writes.{left_part}
use Rattle.filter_sql.specs.LiteralWords.{word_trees}
use Rattle.filter_sql.proofs.print.write_literals.Goals as goal

pub loop-index-preserved : goal.loop-index-preserved
loop-index-preserved g c plain =
    let i = c.loop-index.index in
    let v = c.index-literals-index.result in
    let left = rw (drop_more c.args.literals.now i v c.loop-index-test.true, ← c.index-literals-index.is, drop-drop 1 i (word_trees c.args.words.now)) at (c.loop-index.invariant plain) in
    let separator = c.in_ok-write_str.ensures.writes left.wrote.plain refl in
    let literal = rw c.word_at.ensures at (c.in_ok-write_literal.ensures separator.plain refl) in
    left_part _ i _ _ _ _ (codes ", ") _ _ _ _ left separator c.separator.ensures literal
