-- The bits of the rows that match.
use Rattle.vortex_filter.specs.Formula.{formula}
use Rattle.column_kernels.proofs.MaskSteps.{mask-of-words}
use Rattle.column_kernels.proofs.masks.write_block.Goals as goal

pub returns-clause-masked : goal.returns-clause-masked
returns-clause-masked c = mask-of-words (formula c.args.filter.now) c.args.columns.now c.args.from c.args.count c.write_truths.new.words c.write_matches.new.mask c.write_truths.ensures.truth c.write_matches.ensures.matches
