use Rattle.std.proofs.Common.{sym, ◌∙◌}
use Rattle.vortex_views.proofs.UnionSteps.{place_of_id, place_there}
use Rattle.vortex_views.proofs.union.UnionScalar.child_index.Goals as goal

pub returns-clause-place : goal.returns-clause-place
returns-clause-place c =
    c.tag_to_child_index.ensures ∙ place_of_id _ _ _ _ _ c.variants.ensures (sym c.type_id.ensures.id ∙ c.in_ok-id.was)

pub returns-clause-present : goal.returns-clause-present
returns-clause-present c =
    place_there _ _ _ _ _ c.variants.ensures c.args.self.now.kind c.requires (returns-clause-place c)
