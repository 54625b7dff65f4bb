use Rattle.std.proofs.Common.{◌∙◌}
use Rattle.vortex_dtype.specs.Lemmas.TypeLaws.{trim-exact}
use Rattle.vortex_dtype.proofs.types.equality.DTypePartialEq.eq.Goals as goal

pub returns : goal.returns
returns c = c.equal.ensures ∙ simp trim-exact
