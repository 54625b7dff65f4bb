use Rattle.vortex_dtype.proofs.NullableLaws.{IsNullable-as_nullable, Same-as_nullable}
use Rattle.vortex_dtype.proofs.laws.nullable_is_the_same.Goals as goal

pub returns : goal.returns
returns c = (IsNullable-as_nullable, Same-as_nullable)
