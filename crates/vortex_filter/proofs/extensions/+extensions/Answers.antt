-- The types so far have no extension.
use Rattle.std.proofs.Common.{refl}
use Rattle.vortex_filter.proofs.ExtensionSteps.{rest-decides}
use Rattle.vortex_filter.proofs.extensions.+extensions.Goals as goal

pub have_extension-loop-dtype-init : goal.have_extension-loop-dtype-init
have_extension-loop-dtype-init t c = refl

pub have_extension-loop-dtype-preserved : goal.have_extension-loop-dtype-preserved
have_extension-loop-dtype-preserved t c =
    rest-decides c.loop-dtype.dtype-index c.args.dtypes.now c.dtype-item.result _ _ c.loop-dtype-test.true c.dtype-item.is c.has_extension.ensures c.if-has_extension.false c.loop-dtype.invariant
