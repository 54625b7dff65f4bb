use Rattle.vortex_zone.proofs.Pruning.{lose_nothing}
use Rattle.vortex_zone.proofs.zone_bounds.ZoneBounds.of.Goals as goal

pub returns-then-is_utf8-2-clause-loses_nothing : goal.returns-then-is_utf8-2-clause-loses_nothing
returns-then-is_utf8-2-clause-loses_nothing c =
    lose_nothing _ _ _ _ _ _ _ _ _ c.order_is_reversed.ensures.scalars c.order_is_transitive.ensures.scalars c.of_kind.ensures.bounds

pub returns-then-is_binary-2-clause-loses_nothing :
    goal.returns-then-is_binary-2-clause-loses_nothing
returns-then-is_binary-2-clause-loses_nothing c =
    lose_nothing _ _ _ _ _ _ _ _ _ c.order_is_reversed.ensures.scalars c.order_is_transitive.ensures.scalars c.of_kind-then-is_binary-2.ensures.bounds
