-- Both comparisons, joined.
use Rattle.std.proofs.Common.{◌*◌, arith, length}
use Rattle.vortex_cells.specs.Cells.{cell_of}
use Rattle.column_kernels.proofs.EvaluationSteps.{range-of}
use Rattle.column_kernels.proofs.evaluation.write_range.Goals as goal

pub returns-clause-truth : goal.returns-clause-truth
returns-clause-truth c =
    range-of c.args.rows.now c.args.from c.args.count (64 * length c.compare_rows.new.words) (cell_of c.args.lower.now) (cell_of c.args.upper.now) c.compare_rows.new.words c.compare_rows-2.new.words c.and_words.new.words (omega arith)
    c.compare_rows.ensures.truth c.compare_rows-2.ensures.truth c.and_words.ensures.rows
