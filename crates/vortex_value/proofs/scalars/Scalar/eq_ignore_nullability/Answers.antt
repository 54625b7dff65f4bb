use Rattle.std.proofs.Common.{sym, ◌∙◌}
use Rattle.vortex_value.specs.Lemmas.EqualityLaws.{typed_equal-Decides}
use Rattle.vortex_value.specs.Values.Scalars.{scalar_content, scalar_type}
use Rattle.vortex_value.proofs.scalars.Scalar.eq_ignore_nullability.Goals as goal

pub returns : goal.returns
returns c =
    let x = c.args.self.now in
    let y = c.args.other.now in
    let d = typed_equal-Decides (scalar_type x) (scalar_type y) (scalar_content x) (scalar_content y) in
    (λ h. d.0 (sym c.eq.ensures ∙ h), λ h. c.eq.ensures ∙ d.1 h)
