-- Each call goes from an extension's tree to that of its storage.
use Rattle.vortex_dtype.specs.TypeOf.{type_of}
use Rattle.vortex_dtype.specs.Lemmas.TypeSize.{type_size}
use Rattle.vortex_value.proofs.cast.rules.+may_unwrap.Given as goal

abbrev pub decreases-may_unwrap : goal.decreases-may_unwrap
decreases-may_unwrap l = type_size (type_of l.target.now)
