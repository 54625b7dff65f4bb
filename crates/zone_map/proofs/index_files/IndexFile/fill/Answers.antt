-- What came joins what was filled.
use Rattle.std.proofs.Common.{rules, ◌∙◌}
use Rattle.zone_index.proofs.Filling.{filled_more}
use Rattle.zone_map.proofs.index_files.IndexFile.fill.Goals as goal

pub loop-done-preserved : goal.loop-done-preserved
loop-done-preserved g c = record {
  within = search rules;
  kept = c.in-Ok.ensures.kept ∙ c.loop-done.invariant.kept;
  filled = λ xs is. filled_more _ xs _ _ _ _ _ (c.loop-done.invariant.kept ∙ is) c.loop-done.invariant.within c.in-Ok.ensures.bound.0 c.in-Ok.ensures.given (c.loop-done.invariant.filled xs is);
  long = c.loop-done.invariant.long;
}
