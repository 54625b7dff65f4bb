use Rattle.std.proofs.Common.{◌+◌, ◌==◌, ◌∙◌, ap, arith, rules}
use Rattle.truth_bitmaps.proofs.RowSteps.{no-test, one-test, word-of-tests}
use Rattle.truth_bitmaps.proofs.rows.bits_of.Goals as goal

pub loop-row-init : goal.loop-row-init
loop-row-init g c = no-test _

pub loop-row-preserved : goal.loop-row-preserved
loop-row-preserved g c = one-test _ c.loop-row.row c.loop-row.tests c.holds.result c.from.result (omega arith) (search rules) c.holds.ensures c.loop-row.invariant

pub returns-clause-rows : goal.returns-clause-rows
returns-clause-rows g c = word-of-tests _ _ c.loop-row.row _ _ c.requires.count (omega arith) c.loop-row.invariant c.ones_of.ensures

pub returns-clause-rest : goal.returns-clause-rest
returns-clause-rest g c = λ row above last. c.ones_of.ensures row last ∙ ap (λ m. m == 1) (c.loop-row.invariant.rest row (omega (arith, above)))
