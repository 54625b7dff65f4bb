use Rattle.vortex_bounds.proofs.TextBounds.{successor_of_length}
use Rattle.vortex_bounds.proofs.string_like.next_of_length.Goals as goal

pub returns : goal.returns
returns c =
    let d = c.in_ok-next.ensures in
    successor_of_length _ _ _ _ c.in_ok-front.ensures d.0 d.1 d.2
