-- A record more, and one that is refused.
use Rattle.std.proofs.Common.{◌∙◌, ◌+◌, ◌<◌, ◌^◌, ℕ, arith, ap, length, refl, rules}
use Rattle.std.proofs.lemmas.Result.{err_from_is_err_and}
use Rattle.zone_index.proofs.Refusing.{reached_more, reached_none, refused_in_text}
use Rattle.zone_index.proofs.Sifting.{first_in_records, sifted_all, sifted_more, sifted_none}
use Rattle.record_search.specs.Refused.{RefusesRecord}
use Rattle.record_search.specs.Searched.{is_refused, longer_under, nulls_under, row_under}
use Rattle.record_search.proofs.ObserveLaws.{at_most_one, no_bytes, none_typed, none_valid, not_full, nulls_all, nulls_more, nulls_none, seen_all, seen_more, seen_none}
use Rattle.record_search.proofs.describing.observe_text.Goals as goal

pub loop-rest-init : goal.loop-rest-init
loop-rest-init c = (search rules, seen_none _ _ _ _ c.requires.fresh, search rules, search rules, search rules, reached_none _ _, nulls_none _ _ _, sifted_none _ _ _, nulls_none _ _ _, none_typed _ _ c.requires.fresh, none_valid _ c.requires.fresh)

pub observe_line-requires-clause-few : goal.observe_line-requires-clause-few
observe_line-requires-clause-few c =
    let s = c.args.schema.now in
    let some : 0 < length c.loop-rest.rest.now = search rules in
    let few : c.loop-rest.rows + 1 < 2 ^ 64 = search rules in
    not_full (row_under s) s.delimiter.byte c.args.text.now c.loop-rest.rest.now c.loop-rest.rows c.loop-rest.statistics c.loop-rest.invariant.1 few

pub loop-rest-preserved : goal.loop-rest-preserved
loop-rest-preserved c =
    let s = c.args.schema.now in
    let cut = c.cut_record.ensures.records in
    let count = ap length cut in
    let one = at_most_one c.in_ok-has_row.has_row c.from-rows.result c.from-rows.ensures in (
      omega (arith, c.loop-rest.invariant.0, count),
      seen_more (row_under s) s.delimiter.byte c.args.text.now c.loop-rest.rest.now c.cut_record.result.0.now c.cut_record.result.1.now c.loop-rest.rows (c.loop-rest.rows + c.from-rows.result) c.in_ok-has_row.has_row c.loop-rest.statistics c.observe_line.new.statistics cut c.loop-rest.invariant.1 c.in_ok-has_row.ensures.observed (ap (λ (n : ℕ). c.loop-rest.rows + n) c.from-rows.ensures),
      omega (arith, c.loop-rest.invariant.2, c.cut_record.ensures.shorter),
      omega (arith, c.loop-rest.invariant.3, one),
      c.in_ok-has_row.ensures.length ∙ c.loop-rest.invariant.4,
      reached_more s.delimiter.byte c.args.text.now c.loop-rest.rest.now c.cut_record.result.0.now c.cut_record.result.1.now c.loop-rest.invariant.5 cut c.cut_record.ensures.parts,
      nulls_more (nulls_under s) s.delimiter.byte c.args.text.now c.loop-rest.rest.now c.cut_record.result.0.now c.cut_record.result.1.now c.loop-rest.nulls c.in_ok-has_row.more_nulls c.saturating_add-nulls.result cut c.loop-rest.invariant.6 c.in_ok-has_row.ensures.nulls c.saturating_add-nulls.ensures,
      sifted_more (is_refused s) s.delimiter.byte s.delimiter.byte c.args.text.now c.loop-rest.rest.now c.cut_record.result.0.now c.cut_record.result.1.now c.loop-rest.invariant.7 refl cut c.cut_record.ensures.parts c.in_ok-has_row.ensures.passed,
      nulls_more (longer_under s) s.delimiter.byte c.args.text.now c.loop-rest.rest.now c.cut_record.result.0.now c.cut_record.result.1.now c.loop-rest.longer c.in_ok-has_row.more_longer c.saturating_add-longer.result cut c.loop-rest.invariant.8 c.in_ok-has_row.ensures.longer c.saturating_add-longer.ensures,
      c.in_ok-has_row.ensures.typed,
      c.in_ok-has_row.ensures.valid c.loop-rest.invariant.10,
    )

pub returns-in_err-has_row-clause-refused : goal.returns-in_err-has_row-clause-refused
returns-in_err-has_row-clause-refused c =
    let s = c.args.schema.now in
    let p = err_from_is_err_and c.from_residual.result c.from_residual.ensures.1 in
    rw (p.1, p.2) (refused_in_text (RefusesRecord s) s.delimiter.byte _ c.args.text.now c.loop-rest.rest.now c.cut_record.result.0.now c.cut_record.result.1.now c.in_err-has_row.field-0.0 c.loop-rest.invariant.5 c.cut_record.ensures.records (search rules) c.in_err-has_row.ensures.refused)

pub returns-clause-rows : goal.returns-clause-rows
returns-clause-rows c =
    let s = c.args.schema.now in
    (seen_all (row_under s) s.delimiter.byte c.args.text.now c.loop-rest.rest.now c.loop-rest.rows c.loop-rest.statistics (no_bytes c.loop-rest.rest.now (search rules)) c.loop-rest.invariant.1).0

pub returns-clause-nulls : goal.returns-clause-nulls
returns-clause-nulls c =
    let s = c.args.schema.now in
    nulls_all (nulls_under s) s.delimiter.byte c.args.text.now c.loop-rest.rest.now c.loop-rest.nulls (no_bytes c.loop-rest.rest.now (search rules)) c.loop-rest.invariant.6

pub returns-clause-longer : goal.returns-clause-longer
returns-clause-longer c =
    let s = c.args.schema.now in
    nulls_all (longer_under s) s.delimiter.byte c.args.text.now c.loop-rest.rest.now c.loop-rest.longer (no_bytes c.loop-rest.rest.now (search rules)) c.loop-rest.invariant.8

pub returns-clause-complete : goal.returns-clause-complete
returns-clause-complete c =
    let s = c.args.schema.now in
    (seen_all (row_under s) s.delimiter.byte c.args.text.now c.loop-rest.rest.now c.loop-rest.rows c.loop-rest.statistics (no_bytes c.loop-rest.rest.now (search rules)) c.loop-rest.invariant.1).1

pub returns-clause-passed : goal.returns-clause-passed
returns-clause-passed c =
    let s = c.args.schema.now in
    sifted_all (is_refused s) s.delimiter.byte c.args.text.now c.loop-rest.rest.now c.loop-rest.invariant.7 (no_bytes c.loop-rest.rest.now (search rules))

pub returns-in_err-has_row-clause-first : goal.returns-in_err-has_row-clause-first
returns-in_err-has_row-clause-first c =
    let s = c.args.schema.now in
    let p = err_from_is_err_and c.from_residual.result c.from_residual.ensures.1 in
    rw (p.1, p.2) (first_in_records (is_refused s) (RefusesRecord s) s.delimiter.byte _ c.args.text.now c.loop-rest.rest.now c.cut_record.result.0.now c.cut_record.result.1.now c.in_err-has_row.field-0.0 c.loop-rest.invariant.7 c.cut_record.ensures.records (search rules) c.in_err-has_row.ensures.refused c.in_err-has_row.ensures.right)
