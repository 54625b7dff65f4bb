-- A field more of the first row.
use Rattle.std.proofs.Common.{◌∙◌}
use Rattle.record_rows.proofs.Walking.{followed_long}
use Rattle.record_rows.proofs.texts.is_only_row.Goals as goal

pub loop-rest-preserved : goal.loop-rest-preserved
loop-rest-preserved c =
    let cut = rw c.in-Another.is at c.in_ok-cut.ensures.cut in
    c.loop-rest.invariant ∙ followed_long c.args.delimiter.byte c.loop-rest.rest.now c.in-Another.next.now _ cut
