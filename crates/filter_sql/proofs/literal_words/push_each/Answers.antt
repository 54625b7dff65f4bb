use Rattle.std.proofs.Common.{◌+◌, ap, drop, map}
use Rattle.std.proofs.lemmas.List.{drop_all, drop_more}
use Rattle.vortex_cells.specs.Cells.{cell_of}
use Rattle.filter_sql.proofs.WordLaws.{more_added, none_added}
use Rattle.filter_sql.proofs.literal_words.push_each.Goals as goal

pub loop-literal-preserved : goal.loop-literal-preserved
loop-literal-preserved c = λ now rest.
    let i = c.loop-literal.literal-index in
    let x = c.literal-item.result in
    c.loop-literal.invariant now
    (rw (drop_more c.args.literals.now i x c.loop-literal-test.true, ← c.literal-item.is)
    (more_added (cell_of x) (map cell_of (drop (i + 1) c.args.literals.now)) _ _ now c.in_ok-push_word.ensures rest))

pub returns : goal.returns
returns c =
    c.loop-literal.invariant _ (none_added (map cell_of (drop c.loop-literal.literal-index c.args.literals.now)) _ (ap (map cell_of) (drop_all c.loop-literal.literal-index c.args.literals.now c.loop-literal-test.false)))
