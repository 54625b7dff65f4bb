use Rattle.std.proofs.Common.{◌↔◌, IsTrue, Option, subst}
use Rattle.vortex_value.specs.Validity.{Valid}
use Rattle.vortex_value.specs.Values.RawOf.{raw_of}
use Rattle.vortex_value.specs.Values.Scalars.{scalar_type}
use Rattle.vortex_value.specs.declared.values.ScalarValue.{ScalarValue}
use Rattle.vortex_filter.proofs.coerce.is_valid.Goals as goal

pub returns : goal.returns
returns c = subst (λ (v : Option ScalarValue). IsTrue c.is_compatible.result ↔ Valid (scalar_type c.args.scalar.now) (raw_of v)) c.as_ref.ensures.value c.is_compatible.ensures
