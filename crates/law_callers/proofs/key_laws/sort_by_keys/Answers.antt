-- What is sorted by its keys is sorted by the contents.
use Rattle.law_callers.proofs.KeySteps.{sorted-contents, sorted-partial}
use Rattle.law_callers.proofs.key_laws.sort_by_keys.Goals as goal

pub returns-clause-sorted : goal.returns-clause-sorted
returns-clause-sorted c = sorted-contents c.keys_are_ordered.ensures _ c.sort_unstable.ensures.sorted

pub returns-clause-partial : goal.returns-clause-partial
returns-clause-partial c = sorted-partial c.order_is_content_order.ensures _ (sorted-contents c.keys_are_ordered.ensures _ c.sort_unstable.ensures.sorted)
