-- The cut is behind the full zones.
use Rattle.vortex_c.proofs.CutSteps.{cut_there}
use Rattle.vortex_c.proofs.index_cuts.taken_length.Goals as goal

pub returns-else-is_end-clause-cut : goal.returns-else-is_end-clause-cut
returns-else-is_end-clause-cut c =
    let full = c.full_length.ensures.full in
    cut_there c.args.delimiter.byte c.args.size full.0 c.args.text.now c.full_length.result c.args.is_end c.if-is_end.false full.1 c.full_length.ensures.left
