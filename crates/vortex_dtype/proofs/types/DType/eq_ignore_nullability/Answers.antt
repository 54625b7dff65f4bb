use Rattle.std.proofs.Common.{sym, ◌∙◌}
use Rattle.vortex_dtype.specs.TypeTree.{erase}
use Rattle.vortex_dtype.specs.TypeOf.{type_of}
use Rattle.vortex_dtype.specs.Lemmas.TypeLaws.{tree_eq-Decides}
use Rattle.vortex_dtype.proofs.types.DType.eq_ignore_nullability.Goals as goal

pub returns : goal.returns
returns c =
    let d = tree_eq-Decides (erase (type_of c.args.self.now)) (erase (type_of c.args.other.now)) in
    (λ h. d.0 (sym c.equal.ensures ∙ h), λ h. c.equal.ensures ∙ d.1 h)
