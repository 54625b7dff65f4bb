-- What is found in the zones, and what is behind them.
use Rattle.std.proofs.Common.{◌≡◌, ◌+◌, ℕ, List, arith, drop, length}
use Rattle.std.proofs.lemmas.Result.{err_from_is_err_and}
use Rattle.csv_records.specs.Records.{records_of}
use Rattle.zone_index.specs.Sinks.{told}
use Rattle.zone_index.specs.Zones.{Follow, is_searched}
use Rattle.zone_index.proofs.Sinking.{records_in}
use Rattle.zone_map.specs.Answers.{first_number}
use Rattle.zone_map.proofs.Joining.{after_zones, both_counted, both_written, first_of_both, none_refused, some_of_new, some_of_zones, stops_in_new, stops_in_zones, then_first}
use Rattle.zone_map.proofs.answering.find_both.Goals as goal

pub returns-in_err-tally-clause-answer : goal.returns-in_err-tally-clause-answer
returns-in_err-tally-clause-answer g c =
    let p = err_from_is_err_and c.from_residual.result c.from_residual.ensures.1 in
    let a = rw (c.deref.ensures.value, c.first_row-first.ensures.number) at c.in_err-tally.ensures.answer in
    let f = g.S.Sink.written_as in
    let keep = g.M.Matcher.matches c.args.matcher.now in
    let decides = g.M.Matcher.decides c.args.matcher.now in
    let d = g.M.Records.delimiter c.args.matcher.now in
    let has_row = g.M.Records.has_row c.args.matcher.now in
    let Describes = g.M.Records.Describes c.args.matcher.now in
    let Refuses = g.M.Records.Refuses c.args.matcher.now in
    let is_refused = g.M.Records.is_refused c.args.matcher.now in
    let start = c.args.index.now.start in
    let zones = c.args.index.now.zones.items in
    rw (p.1, p.2) (record {
      written = tt;
      rows = tt;
      passed = tt;
      tally = tt;
      partial = λ other was new parts. some_of_zones _ _ f keep d has_row Describes start (first_number start) zones was new parts.right (a.partial other was start parts.held parts.right);
      begun = λ was new parts. first_of_both _ _ f keep (first_number start) (records_of d (drop start was)) (records_of d new) (a.begun was start parts.held parts.right);
      stops = stops_in_zones d has_row Describes Refuses is_refused (is_searched decides) start zones _ _ _ a.stops;
    })

pub returns-in_err-more-clause-answer : goal.returns-in_err-more-clause-answer
returns-in_err-more-clause-answer g c =
    let p = err_from_is_err_and c.from_residual-in_err-more.result c.from_residual-in_err-more.ensures.1 in
    let a = rw (c.deref.ensures.value, c.first_row-first.ensures.number) at c.in_ok-tally.ensures.answer in
    let e = c.in_err-more.ensures in
    let f = g.S.Sink.written_as in
    let keep = g.M.Matcher.matches c.args.matcher.now in
    let decides = g.M.Matcher.decides c.args.matcher.now in
    let d = g.M.Records.delimiter c.args.matcher.now in
    let has_row = g.M.Records.has_row c.args.matcher.now in
    let Describes = g.M.Records.Describes c.args.matcher.now in
    let Refuses = g.M.Records.Refuses c.args.matcher.now in
    let is_refused = g.M.Records.is_refused c.args.matcher.now in
    let start = c.args.index.now.start in
    let zones = c.args.index.now.zones.items in
    let first = first_number start in
    let number = c.number_after.result in
    let number_is : number ≡ told (first + records_in zones) = rw (c.deref-3.ensures.value, c.first_row-first.ensures.number) at c.number_after.ensures in
    let ends : (end : ℕ) → Follow start zones end → c.end_of.result ≡ told end = rw (c.deref-2.ensures.value) at c.end_of.ensures.follow in
    rw (p.1, p.2) (record {
      written = tt;
      rows = tt;
      passed = tt;
      tally = tt;
      partial = λ other was new parts. some_of_new _ _ _ f keep d start first number was new (after_zones d has_row Describes start first number zones was parts.right number_is) (a.written was start parts.held parts.right) (e.partial other new parts.is);
      begun = λ was new parts. then_first _ _ _ f keep first number (records_of d (drop start was)) (records_of d new) (after_zones d has_row Describes start first number zones was parts.right number_is) (a.written was start parts.held parts.right) (e.begun new parts.is);
      stops = stops_in_new d has_row Describes Refuses is_refused (is_searched decides) start c.end_of.result zones _ _ _ ends (λ was new parts. a.passed was start parts.held parts.right) e.uncut e.far e.refused e.first;
    })

pub returns-clause-answer : goal.returns-clause-answer
returns-clause-answer g c =
    let a = rw (c.deref.ensures.value, c.first_row-first.ensures.number) at c.in_ok-tally.ensures.answer in
    let m = c.in_ok-more.ensures in
    let f = g.S.Sink.written_as in
    let keep = g.M.Matcher.matches c.args.matcher.now in
    let d = g.M.Records.delimiter c.args.matcher.now in
    let has_row = g.M.Records.has_row c.args.matcher.now in
    let Describes = g.M.Records.Describes c.args.matcher.now in
    let start = c.args.index.now.start in
    let zones = c.args.index.now.zones.items in
    let first = first_number start in
    let number = c.number_after.result in
    let number_is : number ≡ told (first + records_in zones) = rw (c.deref-3.ensures.value, c.first_row-first.ensures.number) at c.number_after.ensures in
    record {
      written = λ was new parts. both_written _ _ _ f keep first number (records_of d (drop start was)) (records_of d new) (after_zones d has_row Describes start first number zones was parts.right number_is) (a.written was start parts.held parts.right) (m.written new parts.is);
      rows = λ was new parts. both_counted keep (records_of d (drop start was)) (records_of d new) c.in_ok-tally.tally.found c.in_ok-more.more c.saturating_add.result (omega (arith, a.found was start parts.held parts.right)) (m.found new parts.is) c.saturating_add.ensures;
      passed = λ was new parts. none_refused (length was) _ _ (a.passed was start parts.held parts.right) (m.passed new parts.is);
      tally = record { skipped = a.skipped; copied = a.copied; searched = a.searched };
      partial = tt;
      begun = tt;
      stops = tt;
    }
