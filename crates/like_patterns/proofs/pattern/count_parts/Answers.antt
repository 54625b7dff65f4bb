-- One piece more.
use Rattle.std.proofs.Common.{arith}
use Rattle.like_patterns.proofs.Counting.{count_more}
use Rattle.like_patterns.proofs.pattern.count_parts.Goals as goal

pub loop-piece-preserved : goal.loop-piece-preserved
loop-piece-preserved c =
    omega (arith, c.loop-piece.invariant, c.count_in.ensures, c.saturating_add-count.ensures, count_more c.args.pieces.now c.loop-piece.piece-index c.piece-item.result c.loop-piece-test.true c.piece-item.is)
