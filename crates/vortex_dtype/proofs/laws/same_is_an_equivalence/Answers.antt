use Rattle.std.proofs.Common.{refl, sym, ◌∙◌}
use Rattle.vortex_dtype.proofs.laws.same_is_an_equivalence.Goals as goal

pub returns : goal.returns
returns c = (λ t. refl, λ s t h. sym h, λ s t u h k. h ∙ k)
