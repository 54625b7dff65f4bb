-- A float's type says that its format holds it.
use Rattle.std.proofs.Common.{T, subst, sym}
use Rattle.std.specs.Float.{binary32}
use Rattle.float_storage.proofs.Order.{comes_back}
use Rattle.float_storage.proofs.laws.f32_comes_back.Goals as goal

pub returns : goal.returns
returns c = comes_back binary32 c.args.x (subst T (sym c.well_formed.0.1) tt)
