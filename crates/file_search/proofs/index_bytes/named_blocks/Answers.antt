-- The blocks of the columns that are named.
use Rattle.std.proofs.Common.{◌≡◌, List, Bool, ap, drop, map, subst, sym, ◌∙◌}
use Rattle.zone_index.specs.Encoding.{block_value}
use Rattle.zone_scans.specs.Wanted.{wanted_bytes}
use Rattle.file_search.specs.Plans.{AreFarBlocks}
use Rattle.file_search.specs.declared.index_bytes.PlanError.{PlanError}
use Rattle.file_search.proofs.SoughtSteps.{far_blocks}
use Rattle.file_search.proofs.index_bytes.named_blocks.Goals as goal

pub returns-in-Ok-clause-blocks : goal.returns-in-Ok-clause-blocks
returns-in-Ok-clause-blocks c = record {
  named = c.in_ok-named.named.items;
  marked = c.in_ok-named.ensures;
  covers = λ index. c.in-Ok.ensures.covers index ∙ ap (λ (w : List Bool). wanted_bytes w 0 (map block_value c.args.blocks.now) (drop c.args.start index)) c.deref.ensures.value;
  joined = c.in-Ok.ensures.joined;
}

pub returns-clause-refused : goal.returns-clause-refused
returns-clause-refused c =
    subst (λ (e : PlanError). AreFarBlocks (map block_value c.args.blocks.now) c.args.start e) (sym c.bad_blocks.ensures) (far_blocks (map block_value c.args.blocks.now) c.args.start c.in-Err.error c.in-Err.ensures.far)
