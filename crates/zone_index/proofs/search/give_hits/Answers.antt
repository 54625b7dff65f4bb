-- A record more, which matches or not.
use Rattle.std.proofs.Common.{◌≡◌, ◌+◌, ℕ, List, [], ap, arith, count_by, length, rules, sym}
use Rattle.std.proofs.lemmas.Grind.{common_steps}
use Rattle.std.proofs.lemmas.List.{nil_from_length}
use Rattle.csv_records.specs.Records.{records_of}
use Rattle.zone_index.specs.Sinks.{written_of}
use Rattle.zone_index.proofs.Answering.{hit_more, row_here, rows_after}
use Rattle.zone_index.proofs.Refusing.{reached_more_at}
use Rattle.zone_index.proofs.Sifting.{sifted_more}
use Rattle.zone_index.proofs.Sinking.{given_more, number_passed}
use Rattle.zone_index.proofs.search.give_hits.Goals as goal

pub loop-rest-preserved : goal.loop-rest-preserved
loop-rest-preserved g c =
    let d = g.M.Records.delimiter c.args.matcher.now in
    let e = c.delimiter_byte.result.byte in
    let rest = c.loop-rest.rest.now in
    let line = c.cut_record.result.0.now in
    let after = c.cut_record.result.1.now in
    let by = c.delimiter_byte.ensures in
    let cut = c.cut_record.ensures.records in
    let here = row_here c.args.are_rows (g.M.Records.has_row c.args.matcher.now) d e rest line after by cut in
    let after_rows = rows_after c.args.are_rows (g.M.Records.has_row c.args.matcher.now) d e rest line after by cut in
    record {
      rows = λ all. after_rows (c.loop-rest.invariant.rows all);
      taken = λ all. given_more g.S.Sink.written_as (g.M.Matcher.matches c.args.matcher.now) d e rest line after (g.S.Sink.taken c.loop-rest.sink) (g.S.Sink.taken c.give_record.new.sink) (written_of g.S.Sink.written_as (g.M.Matcher.matches c.args.matcher.now) c.args.start.number (records_of d c.args.text.now)) c.loop-rest.number c.saturating_add-number.result c.in_ok-hit.hit by cut (sym (c.in_ok-hit.ensures.hit (here (c.loop-rest.invariant.rows all)))) c.loop-rest.invariant.fits c.saturating_add-number.ensures c.in_ok-give_record.ensures.taken (c.loop-rest.invariant.taken all);
      kept = search rules;
      counted = λ all. hit_more d e (g.M.Matcher.matches c.args.matcher.now) rest line after c.loop-rest.hits (count_by (g.M.Matcher.matches c.args.matcher.now) (records_of d c.args.text.now)) c.one_more-hits.result c.in_ok-hit.hit by cut (c.in_ok-hit.ensures.hit (here (c.loop-rest.invariant.rows all))) (c.loop-rest.invariant.counted all) c.one_more-hits.ensures;
      next = number_passed d e rest line after c.loop-rest.number c.saturating_add-number.result (c.args.start.number + length (records_of d c.args.text.now)) by cut c.saturating_add-number.ensures c.loop-rest.invariant.next;
      fits = omega (arith, c.saturating_add-number.ensures);
      few = first_of (search rules, grind (arith, common_steps));
      sifted = λ all. sifted_more (g.M.Records.is_refused c.args.matcher.now) d e c.args.text.now rest line after (c.loop-rest.invariant.sifted all) by cut c.cut_record.ensures.parts (c.in_ok-hit.ensures.passed (here (c.loop-rest.invariant.rows all)));
      reached = reached_more_at d e c.args.text.now rest line after c.loop-rest.invariant.reached by cut c.cut_record.ensures.parts;
    }

pub returns-clause-next : goal.returns-clause-next
returns-clause-next g c =
    let none : c.loop-rest.rest.now ≡ [] = first_of (search (rules, nil_from_length), grind (arith, common_steps, nil_from_length)) in
    let ended : length (records_of (g.M.Records.delimiter c.args.matcher.now) c.loop-rest.rest.now) ≡ 0 = ap (λ (l : List ℕ). length (records_of (g.M.Records.delimiter c.args.matcher.now) l)) none in
    omega (arith, c.loop-rest.invariant.next, c.loop-rest.invariant.fits, ended)
