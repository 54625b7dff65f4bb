-- One piece more.
use Rattle.std.proofs.Common.{refl}
use Rattle.std.proofs.Output.{has_written_append, has_written_of_eq}
use Rattle.like_patterns.proofs.Writing.{pieces_more}
use Rattle.like_patterns.proofs.pattern.write_pieces.Goals as goal

pub loop-piece-preserved : goal.loop-piece-preserved
loop-piece-preserved g c plain =
    let so_far = c.loop-piece.invariant plain in
    let step = c.in_ok-write_piece.ensures so_far.plain refl in
    has_written_of_eq _ _ _ _ _ (pieces_more c.args.quote c.args.pieces.now c.loop-piece.piece-index c.piece-item.result c.loop-piece-test.true c.piece-item.is) (has_written_append _ _ _ _ _ _ so_far step)
