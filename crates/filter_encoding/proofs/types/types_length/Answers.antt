-- One type more.
use Rattle.std.proofs.Common.{map}
use Rattle.vortex_dtype.specs.TypeOf.{type_of}
use Rattle.filter_encoding.proofs.NoValueLaws.{types_end, types_start, types_step}
use Rattle.filter_encoding.proofs.types.types_length.Goals as goal

pub loop-dtype-init : goal.loop-dtype-init
loop-dtype-init c = types_start (map type_of c.args.dtypes.now)

pub loop-dtype-preserved : goal.loop-dtype-preserved
loop-dtype-preserved c =
    types_step c.args.dtypes.now c.loop-dtype.dtype-index c.dtype-item.result c.loop-dtype.total c.type_length.result c.saturating_add-total.result c.loop-dtype-test.true c.dtype-item.is c.type_length.ensures c.saturating_add-total.ensures c.loop-dtype.invariant

pub returns : goal.returns
returns c = types_end c.args.dtypes.now c.loop-dtype.dtype-index c.loop-dtype.total c.loop-dtype-test.false c.loop-dtype.invariant
