use Rattle.std.proofs.Common.{[], ◌+◌, Option, Some, Bool, slice_index_or, ℕ}
use Rattle.std.specs.Ordering.{int_cmp}
use Rattle.arrow_columns.specs.Integers.{number_of}
use Rattle.vortex_filter.specs.Operators.{holds}
use Rattle.vortex_filter.specs.declared.operator.CompareOperator.{CompareOperator}
use Rattle.vortex_filter.specs.declared.operator.CompareOperator.TheVariants.{Eq, Gt, Gte, Lt, Lte, NotEq}
use Rattle.column_kernels.proofs.CellSteps.{with-known}
use Rattle.column_kernels.proofs.items.write_compared.Goals as goal

pub returns-in-Eq-clause-truth : goal.returns-in-Eq-clause-truth
returns-in-Eq-clause-truth g c =
    let says : CompareOperator → ℕ → Option Bool = λ op row. Some (holds op (int_cmp (number_of g.C.Comparand.kind (slice_index_or c.args.items.now (c.args.start + row) [])) (g.C.Comparand.number c.args.literal))) in
    with-known says c.args.operator Eq c.args.count _ c.in-Eq.is c.write_each.ensures.truth

pub returns-in-NotEq-clause-truth : goal.returns-in-NotEq-clause-truth
returns-in-NotEq-clause-truth g c =
    let says : CompareOperator → ℕ → Option Bool = λ op row. Some (holds op (int_cmp (number_of g.C.Comparand.kind (slice_index_or c.args.items.now (c.args.start + row) [])) (g.C.Comparand.number c.args.literal))) in
    with-known says c.args.operator NotEq c.args.count _ c.in-NotEq.is c.write_each-in-NotEq.ensures.truth

pub returns-in-Gt-clause-truth : goal.returns-in-Gt-clause-truth
returns-in-Gt-clause-truth g c =
    let says : CompareOperator → ℕ → Option Bool = λ op row. Some (holds op (int_cmp (number_of g.C.Comparand.kind (slice_index_or c.args.items.now (c.args.start + row) [])) (g.C.Comparand.number c.args.literal))) in
    with-known says c.args.operator Gt c.args.count _ c.in-Gt.is c.write_each-in-Gt.ensures.truth

pub returns-in-Gte-clause-truth : goal.returns-in-Gte-clause-truth
returns-in-Gte-clause-truth g c =
    let says : CompareOperator → ℕ → Option Bool = λ op row. Some (holds op (int_cmp (number_of g.C.Comparand.kind (slice_index_or c.args.items.now (c.args.start + row) [])) (g.C.Comparand.number c.args.literal))) in
    with-known says c.args.operator Gte c.args.count _ c.in-Gte.is c.write_each-in-Gte.ensures.truth

pub returns-in-Lt-clause-truth : goal.returns-in-Lt-clause-truth
returns-in-Lt-clause-truth g c =
    let says : CompareOperator → ℕ → Option Bool = λ op row. Some (holds op (int_cmp (number_of g.C.Comparand.kind (slice_index_or c.args.items.now (c.args.start + row) [])) (g.C.Comparand.number c.args.literal))) in
    with-known says c.args.operator Lt c.args.count _ c.in-Lt.is c.write_each-in-Lt.ensures.truth

pub returns-in-Lte-clause-truth : goal.returns-in-Lte-clause-truth
returns-in-Lte-clause-truth g c =
    let says : CompareOperator → ℕ → Option Bool = λ op row. Some (holds op (int_cmp (number_of g.C.Comparand.kind (slice_index_or c.args.items.now (c.args.start + row) [])) (g.C.Comparand.number c.args.literal))) in
    with-known says c.args.operator Lte c.args.count _ c.in-Lte.is c.write_each-in-Lte.ensures.truth
