-- The first byte, and then the parts.
use Rattle.std.proofs.Common.{suc, ◌≡◌, ◌-◌, arith}
use Rattle.vortex_filter.specs.Formula.{formula}
use Rattle.vortex_filter.proofs.Steps.{formula-Constant}
use Rattle.filter_encoding.specs.Encoding.{node_bytes}
use Rattle.filter_encoding.specs.Steps.{IsNode}
use Rattle.filter_encoding.specs.declared.heads.Head.TheVariants.{Constant, Compare, IsNull, In, Between, StartsWith, Like, And, Or, Not}
use Rattle.filter_encoding.proofs.ReadSteps.{begun, behind, both_read, both_stuck, constant_read, either_read, either_stuck, left_stuck, negation_read, negation_stuck, parts_passed_on, passed_on, right_stuck}
use Rattle.filter_encoding.proofs.reading.+filters.Goals as goal

pub read_node-returns-in_err-head-clause-read : goal.read_node-returns-in_err-head-clause-read
read_node-returns-in_err-head-clause-read t c = passed_on node_bytes (IsNode c.args.depth) formula _ _ _ _ c.from_residual.ensures (λ bad. c.in_err-head.ensures)

pub read_node-returns-in-Constant-clause-read : goal.read_node-returns-in-Constant-clause-read
read_node-returns-in-Constant-clause-read t c = constant_read c.args.depth c.in-Constant.truth _ _ _ (formula-Constant c.in-Constant.truth) (begun c.args.depth _ (Constant c.in-Constant.truth) _ _ c.in-Constant.is c.in_ok-head.ensures).0

pub read_node-returns-in-Compare-clause-read : goal.read_node-returns-in-Compare-clause-read
read_node-returns-in-Compare-clause-read t c = behind c.args.depth _ _ _ _ _ (begun c.args.depth _ (Compare c.in-Compare.operator) _ _ c.in-Compare.is c.in_ok-head.ensures).0 (c.read_comparison.ensures.read c.args.depth)

pub read_node-returns-in-IsNull-clause-read : goal.read_node-returns-in-IsNull-clause-read
read_node-returns-in-IsNull-clause-read t c = behind c.args.depth _ _ _ _ _ (begun c.args.depth _ IsNull _ _ c.in-IsNull.is c.in_ok-head.ensures).0 (c.read_null_test.ensures.read c.args.depth)

pub read_node-returns-in-In-clause-read : goal.read_node-returns-in-In-clause-read
read_node-returns-in-In-clause-read t c = behind c.args.depth _ _ _ _ _ (begun c.args.depth _ In _ _ c.in-In.is c.in_ok-head.ensures).0 (c.read_membership.ensures.read c.args.depth)

pub read_node-returns-in-Between-clause-read : goal.read_node-returns-in-Between-clause-read
read_node-returns-in-Between-clause-read t c = behind c.args.depth _ _ _ _ _ (begun c.args.depth _ Between _ _ c.in-Between.is c.in_ok-head.ensures).0 (c.read_range.ensures.read c.args.depth)

pub read_node-returns-in-StartsWith-clause-read : goal.read_node-returns-in-StartsWith-clause-read
read_node-returns-in-StartsWith-clause-read t c = behind c.args.depth _ _ _ _ _ (begun c.args.depth _ StartsWith _ _ c.in-StartsWith.is c.in_ok-head.ensures).0 (c.read_prefix.ensures.read c.args.depth)

pub read_node-returns-in-Like-clause-read : goal.read_node-returns-in-Like-clause-read
read_node-returns-in-Like-clause-read t c = behind c.args.depth _ _ _ _ _ (begun c.args.depth _ Like _ _ c.in-Like.is c.in_ok-head.ensures).0 (c.read_like.ensures.read c.args.depth)

pub read_part-returns-in_err-filter-clause-read : goal.read_part-returns-in_err-filter-clause-read
read_part-returns-in_err-filter-clause-read t c = passed_on node_bytes (IsNode c.args.depth) (λ part. formula part.value) _ _ _ _ c.from_residual.ensures c.in_err-filter.ensures.read

pub read_parts-returns-in_err-left-clause-read : goal.read_parts-returns-in_err-left-clause-read
read_parts-returns-in_err-left-clause-read t c = parts_passed_on c.args.depth _ _ _ _ c.from_residual.ensures (λ bad. left_stuck c.args.depth _ _ (c.in_err-left.ensures.read bad))

pub read_parts-returns-in_err-right-clause-read : goal.read_parts-returns-in_err-right-clause-read
read_parts-returns-in_err-right-clause-read t c = parts_passed_on c.args.depth _ _ _ _ c.from_residual-in_err-right.ensures (λ bad. right_stuck c.args.depth (formula c.in_ok-left.left.value) _ _ _ c.in_ok-left.ensures.read (c.in_err-right.ensures.read bad))

pub read_node-returns-in_err-left-in-And-clause-read : goal.read_node-returns-in_err-left-in-And-clause-read
read_node-returns-in_err-left-in-And-clause-read t c =
    let deep : c.args.depth ≡ suc (c.args.depth - 1) = omega (arith, (begun c.args.depth _ And _ _ c.in-And.is c.in_ok-head.ensures).1) in
    passed_on node_bytes (IsNode c.args.depth) formula _ _ _ _ c.from_residual-in_err-left-in-And.ensures (λ bad. both_stuck c.args.depth (c.args.depth - 1) _ _ _ deep (begun c.args.depth _ And _ _ c.in-And.is c.in_ok-head.ensures).0 (c.in_err-left-in-And.ensures.read bad))

pub read_node-returns-in_err-one-in-Or-clause-read : goal.read_node-returns-in_err-one-in-Or-clause-read
read_node-returns-in_err-one-in-Or-clause-read t c =
    let deep : c.args.depth ≡ suc (c.args.depth - 1) = omega (arith, (begun c.args.depth _ Or _ _ c.in-Or.is c.in_ok-head.ensures).1) in
    passed_on node_bytes (IsNode c.args.depth) formula _ _ _ _ c.from_residual-in_err-one-in-Or.ensures (λ bad. either_stuck c.args.depth (c.args.depth - 1) _ _ _ deep (begun c.args.depth _ Or _ _ c.in-Or.is c.in_ok-head.ensures).0 (c.in_err-one-in-Or.ensures.read bad))

pub read_node-returns-in_err-inner-in-Not-clause-read : goal.read_node-returns-in_err-inner-in-Not-clause-read
read_node-returns-in_err-inner-in-Not-clause-read t c =
    let deep : c.args.depth ≡ suc (c.args.depth - 1) = omega (arith, (begun c.args.depth _ Not _ _ c.in-Not.is c.in_ok-head.ensures).1) in
    passed_on node_bytes (IsNode c.args.depth) formula _ _ _ _ c.from_residual-in_err-inner-in-Not.ensures (λ bad. negation_stuck c.args.depth (c.args.depth - 1) _ _ _ deep (begun c.args.depth _ Not _ _ c.in-Not.is c.in_ok-head.ensures).0 (c.in_err-inner-in-Not.ensures.read bad))

pub read_node-returns-in_ok-left-in-And-clause-read : goal.read_node-returns-in_ok-left-in-And-clause-read
read_node-returns-in_ok-left-in-And-clause-read t c =
    let deep : c.args.depth ≡ suc (c.args.depth - 1) = omega (arith, (begun c.args.depth _ And _ _ c.in-And.is c.in_ok-head.ensures).1) in
    both_read c.args.depth (c.args.depth - 1) (formula c.in_ok-left-in-And.left.value) (formula c.in_ok-left-in-And.right.value) _ _ _ _ deep c.both.ensures.made (begun c.args.depth _ And _ _ c.in-And.is c.in_ok-head.ensures).0 c.in_ok-left-in-And.ensures.read.0 c.in_ok-left-in-And.ensures.read.1

pub read_node-returns-in_ok-one-in-Or-clause-read : goal.read_node-returns-in_ok-one-in-Or-clause-read
read_node-returns-in_ok-one-in-Or-clause-read t c =
    let deep : c.args.depth ≡ suc (c.args.depth - 1) = omega (arith, (begun c.args.depth _ Or _ _ c.in-Or.is c.in_ok-head.ensures).1) in
    either_read c.args.depth (c.args.depth - 1) (formula c.in_ok-one-in-Or.one.value) (formula c.in_ok-one-in-Or.other.value) _ _ _ _ deep c.either.ensures.made (begun c.args.depth _ Or _ _ c.in-Or.is c.in_ok-head.ensures).0 c.in_ok-one-in-Or.ensures.read.0 c.in_ok-one-in-Or.ensures.read.1

pub read_node-returns-in_ok-inner-in-Not-clause-read : goal.read_node-returns-in_ok-inner-in-Not-clause-read
read_node-returns-in_ok-inner-in-Not-clause-read t c =
    let deep : c.args.depth ≡ suc (c.args.depth - 1) = omega (arith, (begun c.args.depth _ Not _ _ c.in-Not.is c.in_ok-head.ensures).1) in
    negation_read c.args.depth (c.args.depth - 1) (formula c.in_ok-inner-in-Not.inner.value) _ _ _ _ deep c.negation.ensures.made (begun c.args.depth _ Not _ _ c.in-Not.is c.in_ok-head.ensures).0 c.in_ok-inner-in-Not.ensures.read
