-- Those so far do not pass.
use Rattle.vortex_dtype.specs.TypeOf.{type_of}
use Rattle.filter_encoding.specs.Encoding.{is_extension}
use Rattle.filter_encoding.proofs.ValueLaws.{any-here, any-rest}
use Rattle.filter_encoding.proofs.versions.any_extension.Goals as goal

pub returns-then-is_extension : goal.returns-then-is_extension
returns-then-is_extension c =
    any-here type_of is_extension c.loop-dtype.dtype-index c.args.dtypes.now c.dtype-item.result _ _ c.loop-dtype-test.true c.dtype-item.is c.is_extension.ensures c.if-is_extension.true c.loop-dtype.invariant

pub loop-dtype-preserved : goal.loop-dtype-preserved
loop-dtype-preserved c =
    any-rest type_of is_extension c.loop-dtype.dtype-index c.args.dtypes.now c.dtype-item.result _ _ c.loop-dtype-test.true c.dtype-item.is c.is_extension.ensures c.if-is_extension.false c.loop-dtype.invariant
