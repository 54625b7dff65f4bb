-- A record more, the first that is refused, and all of them.
use Rattle.std.proofs.Common.{◌≡◌, ◌+◌, ◌-◌, ◌^◌, [], arith, length, min, rules}
use Rattle.std.proofs.lemmas.Grind.{common_steps}
use Rattle.std.proofs.lemmas.List.{nil_from_length}
use Rattle.std.proofs.lemmas.Result.{err_from_is_err_and}
use Rattle.vortex_filter.specs.Formula.{formula}
use Rattle.record_columns.proofs.RowSteps.{fault_told, passed_all, read_more}
use Rattle.record_columns.proofs.rows.matching_rows.Goals as goal

pub loop-rest-preserved : goal.loop-rest-preserved
loop-rest-preserved c =
    let line = c.cut_record.result.0.now in
    let at : c.saturating_add-here.result ≡ min (c.loop-rest.here + length line) (2 ^ 64 - 1) = omega (arith, c.saturating_add-here.ensures) in
    read_more c.args.matcher.now.schema.now (formula c.args.matcher.now.filter.now) c.args.place c.args.text.now c.loop-rest.rest.now line c.cut_record.result.1.now c.loop-rest.rows.items c.push_matching.new.rows.items c.loop-rest.here c.saturating_add-here.result
    c.loop-rest.invariant c.cut_record.ensures.records c.in_ok-push_matching.ensures.pushed c.in_ok-push_matching.ensures.values c.in_ok-push_matching.ensures.passed at

pub returns-in_err-push_matching-clause-fault : goal.returns-in_err-push_matching-clause-fault
returns-in_err-push_matching-clause-fault c =
    let p = err_from_is_err_and c.from_residual.result c.from_residual.ensures.1 in
    rw (p.1, p.2) (fault_told c.args.matcher.now.schema.now (formula c.args.matcher.now.filter.now) c.args.place c.args.text.now c.loop-rest.rest.now c.cut_record.result.0.now c.cut_record.result.1.now c.loop-rest.rows.items c.loop-rest.here c.in_err-push_matching.field-0.0 c.loop-rest.invariant c.cut_record.ensures.records c.in_err-push_matching.ensures.refused c.in_err-push_matching.ensures.right)

pub returns-clause-passed : goal.returns-clause-passed
returns-clause-passed c =
    let ended : c.loop-rest.rest.now ≡ [] = first_of (search (rules, nil_from_length), grind (arith, common_steps, nil_from_length)) in
    passed_all c.args.matcher.now.schema.now (formula c.args.matcher.now.filter.now) c.args.place c.args.text.now c.loop-rest.rest.now c.loop-rest.rows.items c.loop-rest.here c.loop-rest.invariant ended
