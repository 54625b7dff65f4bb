use Rattle.std.proofs.Common.{◌≡◌, Some, rules}
use Rattle.vortex_pvalue.specs.Whole.{ptype_of}
use Rattle.vortex_leaves.proofs.NumberLaws.{ptype_only, number_kept}
use Rattle.vortex_leaves.proofs.primitive.PrimitiveScalar.typed_value.Goals as goal

pub returns : goal.returns
returns g c =
    let same : c.args.self.now.ptype ≡ g.T.NativePType.PTYPE = ptype_only _ _ _ c.args.self.now.kind c.requires in
    let is : c.args.self.now.pvalue ≡ Some c.in_ok-number.number = search rules in
    let kept : ptype_of c.in_ok-number.number ≡ c.args.self.now.ptype = number_kept _ _ _ c.args.self.now.holds is in
    search rules
