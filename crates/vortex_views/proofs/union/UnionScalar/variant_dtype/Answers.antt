use Rattle.std.proofs.Common.{sym, ◌∙◌}
use Rattle.vortex_views.proofs.UnionSteps.{none_before, type_at_place, type_there}
use Rattle.vortex_views.proofs.union.UnionScalar.variant_dtype.Goals as goal

pub returns-clause-present : goal.returns-clause-present
returns-clause-present c =
    none_before _ _ _ _ (c.variant_by_index.ensures.tree ∙ type_at_place _ _ _ _ _ c.variants.ensures (sym c.child_index.ensures.place ∙ c.in_ok-index.was))
    (type_there _ _ c.args.self.now.kind c.requires)
