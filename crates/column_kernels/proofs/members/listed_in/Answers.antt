use Rattle.std.proofs.Common.{◌<◌, ◌≤◌, arith, length, rules}
use Rattle.column_kernels.proofs.MemberSteps.{eight-needles}
use Rattle.column_kernels.proofs.members.listed_in.Goals as goal

pub returns : goal.returns
returns c =
    let literals = c.args.literals.now in
    let some : 0 < length literals = search rules in
    let few : length literals ≤ 8 = omega (arith, c.if-literals-gt8.false) in
    eight-needles c.args.rows.now literals some few c.in_ok-needle_at.field-0 c.in_ok-needle_at-2.field-0 c.in_ok-needle_at-3.field-0 c.in_ok-needle_at-4.field-0 c.in_ok-needle_at-5.field-0 c.in_ok-needle_at-6.field-0 c.in_ok-needle_at-7.field-0
    c.in_ok-needle_at-8.field-0 c.in_ok-needle_at.ensures c.in_ok-needle_at-2.ensures c.in_ok-needle_at-3.ensures c.in_ok-needle_at-4.ensures c.in_ok-needle_at-5.ensures c.in_ok-needle_at-6.ensures c.in_ok-needle_at-7.ensures c.in_ok-needle_at-8.ensures
