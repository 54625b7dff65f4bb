-- One more is written, or may not be.
use Rattle.std.proofs.Common.{map, arith}
use Rattle.std.specs.List.{AllByRecursion}
use Rattle.vortex_dtype.specs.TypeOf.{type_of}
use Rattle.filter_encoding.specs.Encoding.{IsPlain, type_bytes}
use Rattle.filter_encoding.proofs.ListLaws.{left_end, left_item, left_more, left_start}
use Rattle.filter_encoding.proofs.WriteSteps.{begins_on, passed_on}
use Rattle.filter_encoding.proofs.types.append_each.Goals as goal

pub loop-dtype-init : goal.loop-dtype-init
loop-dtype-init c = left_start type_bytes IsPlain IsPlain (map type_of c.args.dtypes.now) _

pub loop-dtype-preserved : goal.loop-dtype-preserved
loop-dtype-preserved c =
    left_more type_bytes IsPlain IsPlain type_of c.loop-dtype.dtype-index _ c.args.dtypes.now c.dtype-item.result _ _ _ (omega arith) c.loop-dtype-test.true c.dtype-item.is c.loop-dtype.invariant c.in_ok-append_type.ensures

pub returns-in_err-append_type : goal.returns-in_err-append_type
returns-in_err-append_type c =
    let w = c.in_err-append_type.ensures in
    passed_on _ (IsPlain (type_of c.dtype-item.result)) (AllByRecursion IsPlain (map type_of c.args.dtypes.now)) _ _ _ _ _ c.from_residual.ensures
    (left_item type_bytes IsPlain IsPlain type_of c.loop-dtype.dtype-index c.args.dtypes.now c.dtype-item.result _ _ c.loop-dtype-test.true c.dtype-item.is c.loop-dtype.invariant) w.0 (begins_on _ _ _ c.loop-dtype.invariant.begins w.1)

pub returns : goal.returns
returns c = left_end type_bytes IsPlain IsPlain type_of c.loop-dtype.dtype-index c.args.dtypes.now _ _ c.loop-dtype-test.false c.loop-dtype.invariant
