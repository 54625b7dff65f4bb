-- What came joins what was filled, and was asked for within.
use Rattle.std.proofs.Common.{rules, ◌∙◌, arith, length}
use Rattle.std.proofs.lemmas.List.{length-drop, length-take}
use Rattle.zone_index.proofs.Asking.{failed_part, read_part}
use Rattle.zone_index.proofs.Filling.{filled_more}
use Rattle.zone_index.proofs.read_at.fill_from.Goals as goal

pub loop-done-preserved : goal.loop-done-preserved
loop-done-preserved g c = (
  search rules,
  search rules,
  λ xs is. filled_more _ xs _ _ _ _ _ (c.loop-done.invariant.1 ∙ is) c.loop-done.invariant.0 c.in-Ok.ensures.bound.0 c.in-Ok.ensures.given (c.loop-done.invariant.2 xs is),
  read_part c.args.at c.loop-done.done (length c.args.into.now) _ _ (g.R.ReadAt.asked c.loop-done.reader) _ (simp (length-take, length-drop) (omega arith)) c.loop-done.invariant.3 c.in-Ok.ensures.asks,
)

pub returns-in-Ok-eq0-clause-asks : goal.returns-in-Ok-eq0-clause-asks
returns-in-Ok-eq0-clause-asks g c =
    read_part c.args.at c.loop-done.done (length c.args.into.now) _ _ (g.R.ReadAt.asked c.loop-done.reader) _ (simp (length-take, length-drop) (omega arith)) c.loop-done.invariant.3 c.in-Ok-eq0.ensures.asks

pub returns-in-Err-clause-asks : goal.returns-in-Err-clause-asks
returns-in-Err-clause-asks g c =
    failed_part c.args.at c.loop-done.done (length c.args.into.now) _ _ (g.R.ReadAt.asked c.loop-done.reader) _ (simp (length-take, length-drop) (omega arith)) c.loop-done.invariant.3 c.in-Err.ensures.failed
