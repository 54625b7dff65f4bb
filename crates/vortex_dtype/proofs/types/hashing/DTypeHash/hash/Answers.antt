use Rattle.std.proofs.Common.{◌∙◌}
use Rattle.vortex_dtype.specs.Lemmas.TypeLaws.{trim-exact}
use Rattle.vortex_dtype.proofs.types.hashing.DTypeHash.hash.Goals as goal

pub returns : goal.returns
returns g c = c.feed.ensures ∙ simp trim-exact
