-- The lines up to the last line feed are answered, and what follows it is kept.
use Rattle.rows.proofs.Streaming.{fed_to}
use Rattle.rows.proofs.program.push_piece.Goals as goal

pub returns : goal.returns
returns c =
    fed_to _ _ _ _ _ _ _ _ _ _ c.in-Some.ensures.0.high c.in-Some.ensures.1 c.in_ok-extend_from_slice.ensures.items c.deref.ensures.value c.in_ok-push_rows.ensures c.clear.ensures.items c.extend_from_slice-3.ensures.items
