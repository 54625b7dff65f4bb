use mir.Syntax.{w128}
use Rattle.std.proofs.Common.{ap, arith, of_z, to_z}
use Rattle.std.proofs.lemmas.Int.{ints}
use Rattle.arrow_columns.specs.declared.kinds.IntegerKind.TheVariants.{I16, I32, I64, I8, U16, U32, U64, U8}
use Rattle.arrow_columns.specs.declared.kinds.ItemKind.TheVariants.{Integer}
use Rattle.column_kernels.proofs.CellSteps.{of-kind}
use Rattle.column_kernels.proofs.items.compare_integers.Goals as goal

pub returns-in-U8-clause-truth : goal.returns-in-U8-clause-truth
returns-in-U8-clause-truth c =
    of-kind c.args.operator c.args.literal (to_z w128 (of_z w128 c.args.literal)) (Integer c.args.kind) (Integer U8) c.args.column c.args.from c.args.count _ (ap Integer c.in-U8.is) (omega (arith, ints)) c.compare_items.ensures.truth

pub returns-in-U16-clause-truth : goal.returns-in-U16-clause-truth
returns-in-U16-clause-truth c =
    of-kind c.args.operator c.args.literal (to_z w128 (of_z w128 c.args.literal)) (Integer c.args.kind) (Integer U16) c.args.column c.args.from c.args.count _ (ap Integer c.in-U16.is) (omega (arith, ints)) c.compare_items-in-U16.ensures.truth

pub returns-in-U32-clause-truth : goal.returns-in-U32-clause-truth
returns-in-U32-clause-truth c =
    of-kind c.args.operator c.args.literal (to_z w128 (of_z w128 c.args.literal)) (Integer c.args.kind) (Integer U32) c.args.column c.args.from c.args.count _ (ap Integer c.in-U32.is) (omega (arith, ints)) c.compare_items-in-U32.ensures.truth

pub returns-in-U64-clause-truth : goal.returns-in-U64-clause-truth
returns-in-U64-clause-truth c =
    of-kind c.args.operator c.args.literal (to_z w128 (of_z w128 c.args.literal)) (Integer c.args.kind) (Integer U64) c.args.column c.args.from c.args.count _ (ap Integer c.in-U64.is) (omega (arith, ints)) c.compare_items-in-U64.ensures.truth

pub returns-in-I8-clause-truth : goal.returns-in-I8-clause-truth
returns-in-I8-clause-truth c =
    of-kind c.args.operator c.args.literal (to_z w128 (of_z w128 c.args.literal)) (Integer c.args.kind) (Integer I8) c.args.column c.args.from c.args.count _ (ap Integer c.in-I8.is) (omega (arith, ints)) c.compare_items-in-I8.ensures.truth

pub returns-in-I16-clause-truth : goal.returns-in-I16-clause-truth
returns-in-I16-clause-truth c =
    of-kind c.args.operator c.args.literal (to_z w128 (of_z w128 c.args.literal)) (Integer c.args.kind) (Integer I16) c.args.column c.args.from c.args.count _ (ap Integer c.in-I16.is) (omega (arith, ints)) c.compare_items-in-I16.ensures.truth

pub returns-in-I32-clause-truth : goal.returns-in-I32-clause-truth
returns-in-I32-clause-truth c =
    of-kind c.args.operator c.args.literal (to_z w128 (of_z w128 c.args.literal)) (Integer c.args.kind) (Integer I32) c.args.column c.args.from c.args.count _ (ap Integer c.in-I32.is) (omega (arith, ints)) c.compare_items-in-I32.ensures.truth

pub returns-in-I64-clause-truth : goal.returns-in-I64-clause-truth
returns-in-I64-clause-truth c =
    of-kind c.args.operator c.args.literal (to_z w128 (of_z w128 c.args.literal)) (Integer c.args.kind) (Integer I64) c.args.column c.args.from c.args.count _ (ap Integer c.in-I64.is) (omega (arith, ints)) c.compare_items-in-I64.ensures.truth
