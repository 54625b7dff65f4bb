use Rattle.std.proofs.Common.{◌/◌, ◌%◌, arith, rules}
use Rattle.truth_bitmaps.proofs.RowSteps.{last-told, word-told}
use Rattle.truth_bitmaps.proofs.rows.write_rows.Goals as goal

pub loop-k-preserved : goal.loop-k-preserved
loop-k-preserved g c = word-told _ _ c.loop-k.k 64 _ c.loop-k.words c.bits_of.result c.known.result c.loop-k.invariant (search rules) (omega arith) (omega arith) c.bits_of.ensures.rows c.known.ensures

pub returns-then-count-ne0-clause-rows : goal.returns-then-count-ne0-clause-rows
returns-then-count-ne0-clause-rows g c =
    last-told _ _ c.loop-k.k (c.args.count / 64) (c.args.count % 64) c.args.count c.loop-k.words c.bits_of-then-count-ne0.result c.known-then-count-ne0.result (omega arith) c.loop-k.invariant (omega arith)
    (omega arith) (omega arith) c.bits_of-then-count-ne0.ensures.rows c.known-then-count-ne0.ensures

pub returns-clause-rows : goal.returns-clause-rows
returns-clause-rows g c = λ row below. c.loop-k.invariant.rows row (omega arith)
