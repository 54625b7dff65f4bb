use mir.Syntax.{w128}
use Rattle.std.proofs.Common.{arith, of_z, to_z}
use Rattle.std.proofs.lemmas.Int.{ints}
use Rattle.arrow_columns.specs.declared.kinds.ItemKind.TheVariants.{F32, F64, I128, Integer}
use Rattle.column_kernels.proofs.CellSteps.{of-kind}
use Rattle.column_kernels.proofs.items.compare_numbers.Goals as goal

pub returns-in-Integer-clause-truth : goal.returns-in-Integer-clause-truth
returns-in-Integer-clause-truth c =
    of-kind c.args.operator c.args.literal (to_z w128 (of_z w128 c.args.literal)) c.args.rows.now.kind (Integer c.in-Integer.kind) c.args.rows.now.column c.args.from c.args.count _ c.in-Integer.is (omega (arith, ints)) c.compare_integers.ensures.truth

pub returns-in-F32-clause-truth : goal.returns-in-F32-clause-truth
returns-in-F32-clause-truth c =
    of-kind c.args.operator c.args.literal (to_z w128 (of_z w128 c.args.literal)) c.args.rows.now.kind F32 c.args.rows.now.column c.args.from c.args.count _ c.in-F32.is (omega (arith, ints)) c.compare_items.ensures.truth

pub returns-in-Some-clause-truth : goal.returns-in-Some-clause-truth
returns-in-Some-clause-truth c =
    of-kind c.args.operator c.args.literal c.in-Some.number.own.storage c.args.rows.now.kind F64 c.args.rows.now.column c.args.from c.args.count _ c.in-F64.is (omega (arith, ints, c.in-Some.ensures)) c.compare_with.ensures.truth

pub returns-in-None-clause-truth : goal.returns-in-None-clause-truth
returns-in-None-clause-truth c =
    of-kind c.args.operator c.args.literal (to_z w128 (of_z w128 c.args.literal)) c.args.rows.now.kind F64 c.args.rows.now.column c.args.from c.args.count _ c.in-F64.is (omega (arith, ints)) c.compare_outside.ensures.truth

pub returns-in-I128-clause-truth : goal.returns-in-I128-clause-truth
returns-in-I128-clause-truth c =
    of-kind c.args.operator c.args.literal (to_z w128 (of_z w128 c.args.literal)) c.args.rows.now.kind I128 c.args.rows.now.column c.args.from c.args.count _ c.in-I128.is (omega (arith, ints)) c.compare_items-in-I128.ensures.truth
