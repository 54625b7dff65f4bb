-- The blocks of the columns that the words name.
use Rattle.std.proofs.Common.{List, map, subst}
use Rattle.std.specs.Prelude.{IfErr, IfOk}
use Rattle.vortex_filter.specs.Formula.{formula}
use Rattle.zone_index.specs.Encoding.{block_value, root_value}
use Rattle.zone_index.specs.declared.encoding.Block.{Block}
use Rattle.file_search.specs.Plans.{AreFarBlocks, AreNamedBlocks}
use Rattle.file_search.proofs.SoughtSteps.{far_all, named_all}
use Rattle.file_search.proofs.index_bytes.blocks_to_read.Goals as goal

pub returns-clause-blocks : goal.returns-clause-blocks
returns-clause-blocks c =
    named_all c.args.depth c.args.root.now c.args.words.now (root_value c.in_ok-root.root) c.in_ok-root.start c.in_ok-sought.sought.schema (formula c.in_ok-sought.sought.filter) c.named_blocks.result c.in_ok-root.ensures.read c.in_ok-sought.ensures.sought
    (subst (λ (bs : List Block). IfOk c.named_blocks.result (λ ranges. AreNamedBlocks (map block_value bs) c.in_ok-root.start c.in_ok-sought.sought.schema (formula c.in_ok-sought.sought.filter) ranges.items)) c.deref.ensures.value c.named_blocks.ensures.blocks)

pub returns-clause-refused : goal.returns-clause-refused
returns-clause-refused c =
    far_all c.args.depth c.args.root.now c.args.words.now (root_value c.in_ok-root.root) c.in_ok-root.start c.in_ok-sought.sought.schema (formula c.in_ok-sought.sought.filter) c.named_blocks.result c.in_ok-root.ensures.read c.in_ok-sought.ensures.sought
    (subst (λ (bs : List Block). IfErr c.named_blocks.result (AreFarBlocks (map block_value bs) c.in_ok-root.start)) c.deref.ensures.value c.named_blocks.ensures.refused)
