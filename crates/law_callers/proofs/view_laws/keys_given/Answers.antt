-- As many keys are given as were left.
use Rattle.std.proofs.Common.{◌∙◌}
use Rattle.vortex_views.specs.contracts.iterators.KeysIterator.TheImpl.{ghosts}
use Rattle.law_callers.proofs.KeysCounted.{as_many, counted}
use Rattle.law_callers.proofs.view_laws.keys_given.Goals as goal

pub returns : goal.returns
returns c = counted _ _ ghosts.next_gives c.iterators_give_each_part.ensures.keys c.keys.result _ _ c.keys.ensures.all c.count.ensures.ran ∙ as_many _ _ _ c.args.map.kind
