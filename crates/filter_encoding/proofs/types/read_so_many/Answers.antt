-- One more is read, or is none.
use Rattle.std.proofs.Common.{arith}
use Rattle.vortex_dtype.specs.TypeOf.{type_of}
use Rattle.vortex_dtype.specs.TypeTree.{null_type}
use Rattle.filter_encoding.specs.Encoding.{IsPlain, type_bytes}
use Rattle.filter_encoding.specs.Lists.{AreSo, each_bytes}
use Rattle.filter_encoding.proofs.ListLaws.{loop_end, loop_more, loop_start, loop_stuck}
use Rattle.filter_encoding.proofs.ReadSteps.{passed_on}
use Rattle.filter_encoding.proofs.TypeLaws.{a_type, types_apart}
use Rattle.filter_encoding.proofs.types.read_so_many.Goals as goal

pub loop-taken-init : goal.loop-taken-init
loop-taken-init c = loop_start type_bytes IsPlain type_of _ _ c.new-dtypes.ensures.items

pub loop-taken-preserved : goal.loop-taken-preserved
loop-taken-preserved c =
    loop_more type_bytes IsPlain type_of c.loop-taken.taken _ c.loop-taken.dtypes.items _ c.in_ok-dtype.dtype _ _ _ (omega arith) c.loop-taken.invariant c.in_ok-dtype.ensures c.in_ok-push.ensures.items

pub returns-in_err-dtype : goal.returns-in_err-dtype
returns-in_err-dtype c =
    passed_on (each_bytes type_bytes) (AreSo c.args.count IsPlain) _ _ _ _ _ c.from_residual.ensures
    (λ bad. loop_stuck type_bytes IsPlain type_of types_apart null_type a_type c.loop-taken.taken c.args.count c.loop-taken.dtypes.items _ _ _ c.loop-taken-test.true c.loop-taken.invariant (c.in_err-dtype.ensures bad))

pub returns : goal.returns
returns c = loop_end type_bytes IsPlain type_of c.loop-taken.taken c.args.count c.loop-taken.dtypes.items _ _ c.loop-taken.auto.taken-end c.loop-taken-test.false c.loop-taken.invariant
