-- The cells of two pieces and then of a third are those of all three.
use Rattle.std.proofs.Common.{◌++◌, subst}
use Rattle.std.proofs.lemmas.List.{append_assoc}
use Rattle.std.proofs.lemmas.Result.{IfOk-weaker}
use Rattle.vortex_cells.specs.Cells.{Cell}
use Rattle.vortex_statistics.specs.Merging.{AreRightTogether}
use Rattle.vortex_statistics.specs.Statistics.{AreRight, known}
use Rattle.law_callers.specs.Pieces.{AreRightForThree}
use Rattle.law_callers.proofs.statistics_laws.from_the_first.Goals as goal

pub returns-in-Ok : goal.returns-in-Ok
returns-in-Ok c =
    IfOk-weaker c.merge-in-Ok.result (λ u. AreRightTogether (known c.in-Ok.front) (known c.args.third) (known u)) (AreRightForThree c.args.first c.args.second c.args.third)
    (λ u together xs ys zs h k l. subst (AreRight (known u)) (append_assoc xs ys zs) (together (xs ++ ys) zs (c.in-Ok.ensures.right xs ys h k) l)) c.merge-in-Ok.ensures.right
