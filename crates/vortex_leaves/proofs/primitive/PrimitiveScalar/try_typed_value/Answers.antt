use Rattle.std.proofs.Common.{◌≡◌, ◌∙◌, Some, ap, rules}
use Rattle.vortex_leaves.proofs.NumberLaws.{ptype_kept}
use Rattle.vortex_leaves.proofs.primitive.PrimitiveScalar.try_typed_value.Goals as goal

pub typed_value-requires : goal.typed_value-requires
typed_value-requires g c =
    let same : c.args.self.now.ptype ≡ g.T.NativePType.PTYPE = search rules in
    ptype_kept _ _ c.args.self.now.kind ∙ ap Some same
