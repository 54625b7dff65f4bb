use Rattle.std.proofs.Common.{◌+◌, List, Option, Bool, sym, ℕ}
use Rattle.std.specs.Cmp.Lexicographic.{slice_cmp}
use Rattle.std.specs.Ordering.{nat_cmp}
use Rattle.vortex_filter.specs.declared.operator.CompareOperator.{CompareOperator}
use Rattle.vortex_filter.specs.declared.operator.CompareOperator.TheVariants.{Eq, NotEq}
use Rattle.column_kernels.specs.Truths.{byte_cell, compared}
use Rattle.column_kernels.proofs.CellSteps.{with-known}
use Rattle.column_kernels.proofs.bytes.compare_bytes.Goals as goal

-- by the bytes of the needle, and then by the operator

pub returns-in-Eq-clause-truth : goal.returns-in-Eq-clause-truth
returns-in-Eq-clause-truth c =
    let rows = c.args.rows.now in
    let literal = c.args.literal.now in
    let says : CompareOperator → List ℕ → ℕ → Option Bool = λ op bytes row. compared op (λ (value : List ℕ). slice_cmp nat_cmp value bytes) (byte_cell rows.width rows.column (c.args.from + row)) in
    with-known (λ op. says op literal) c.args.operator Eq c.args.count _ c.in-Eq.is (with-known (says Eq) literal _ c.args.count _ (sym c.of-needle.ensures) c.test_spans.ensures.truth)

pub returns-in-NotEq-clause-truth : goal.returns-in-NotEq-clause-truth
returns-in-NotEq-clause-truth c =
    let rows = c.args.rows.now in
    let literal = c.args.literal.now in
    let says : CompareOperator → List ℕ → ℕ → Option Bool = λ op bytes row. compared op (λ (value : List ℕ). slice_cmp nat_cmp value bytes) (byte_cell rows.width rows.column (c.args.from + row)) in
    with-known (λ op. says op literal) c.args.operator NotEq c.args.count _ c.in-NotEq.is (with-known (says NotEq) literal _ c.args.count _ (sym c.of-needle-in-NotEq.ensures) c.test_spans-in-NotEq.ensures.truth)
