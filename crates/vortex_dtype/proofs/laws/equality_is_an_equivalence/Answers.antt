use Rattle.std.proofs.Common.{sym, ◌∙◌}
use Rattle.vortex_dtype.specs.Lemmas.TypeLaws.{tree_eq-refl, tree_eq-Decides}
use Rattle.vortex_dtype.proofs.laws.equality_is_an_equivalence.Goals as goal

pub returns : goal.returns
returns c = (
  tree_eq-refl,
  λ s t h. (tree_eq-Decides t s).1 (sym ((tree_eq-Decides s t).0 h)),
  λ s t u h k. (tree_eq-Decides s u).1 ((tree_eq-Decides s t).0 h ∙ (tree_eq-Decides t u).0 k),
)
