-- The first offset is where the line ends.
use Rattle.rows.proofs.Places.{ends}
use Rattle.rows.proofs.words.line_end.Goals as goal

pub returns : goal.returns
returns c =
    let h = ends c.args.text.now _ _ _ c.memchr_iter.ensures.value c.next.ensures.steps in
    record { within = h.within; found = h.found; first = h.first; none = h.none }
