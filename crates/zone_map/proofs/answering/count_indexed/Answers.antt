-- What is counted in the zones, and what is behind them.
use Rattle.std.proofs.Common.{◌≡◌, ℕ, ap, drop, length}
use Rattle.std.proofs.lemmas.Result.{err_from_is_err_and}
use Rattle.csv_records.specs.Records.{records_of}
use Rattle.zone_index.specs.Sinks.{told}
use Rattle.zone_index.specs.Zones.{Follow, is_undecided}
use Rattle.zone_map.proofs.Joining.{both_counted, none_refused, stops_in_new, stops_in_zones}
use Rattle.zone_map.proofs.answering.count_indexed.Goals as goal

pub returns-in_err-known-clause-answer : goal.returns-in_err-known-clause-answer
returns-in_err-known-clause-answer g c =
    let p = err_from_is_err_and c.from_residual.result c.from_residual.ensures.1 in
    let a = rw (c.deref.ensures.value) at c.in_err-known.ensures.answer in
    let d = g.M.Records.delimiter c.args.matcher.now in
    let has_row = g.M.Records.has_row c.args.matcher.now in
    let Describes = g.M.Records.Describes c.args.matcher.now in
    let Refuses = g.M.Records.Refuses c.args.matcher.now in
    let is_refused = g.M.Records.is_refused c.args.matcher.now in
    let decides = g.M.Matcher.decides c.args.matcher.now in
    rw (p.1, p.2) (record {
      counted = tt;
      passed = tt;
      reading = a.reading;
      stops = stops_in_zones d has_row Describes Refuses is_refused (is_undecided decides) c.args.index.now.start c.args.index.now.zones.items _ _ _ a.stops;
    })

pub returns-in_err-more-clause-answer : goal.returns-in_err-more-clause-answer
returns-in_err-more-clause-answer g c =
    let p = err_from_is_err_and c.from_residual-in_err-more.result c.from_residual-in_err-more.ensures.1 in
    let a = rw (c.deref.ensures.value) at c.in_ok-known.ensures.answer in
    let e = c.in_err-more.ensures in
    let d = g.M.Records.delimiter c.args.matcher.now in
    let has_row = g.M.Records.has_row c.args.matcher.now in
    let Describes = g.M.Records.Describes c.args.matcher.now in
    let Refuses = g.M.Records.Refuses c.args.matcher.now in
    let is_refused = g.M.Records.is_refused c.args.matcher.now in
    let decides = g.M.Matcher.decides c.args.matcher.now in
    let start = c.args.index.now.start in
    let zones = c.args.index.now.zones.items in
    let ends : (end : ℕ) → Follow start zones end → c.end_of-place.result ≡ told end = rw (c.deref-2.ensures.value) at c.end_of-place.ensures.follow in
    rw (p.1, p.2) (record {
      counted = tt;
      passed = tt;
      reading = e.reading;
      stops = stops_in_new d has_row Describes Refuses is_refused (is_undecided decides) start c.end_of-place.result zones _ _ _ ends (λ was new parts. a.passed was start parts.held parts.right) e.uncut e.far e.refused e.first;
    })

pub returns-clause-answer : goal.returns-clause-answer
returns-clause-answer g c =
    let a = rw (c.deref.ensures.value) at c.in_ok-known.ensures.answer in
    let m = c.in_ok-more.ensures in
    let keep = g.M.Matcher.matches c.args.matcher.now in
    let d = g.M.Records.delimiter c.args.matcher.now in
    let start = c.args.index.now.start in
    record {
      counted = λ was new parts. both_counted keep (records_of d (drop start was)) (records_of d new) c.in_ok-known.known c.in_ok-more.more c.saturating_add.result (ap told (a.counted was start parts.held parts.right)) (m.counted new parts.is) c.saturating_add.ensures;
      passed = λ was new parts. none_refused (length was) _ _ (a.passed was start parts.held parts.right) (m.passed new parts.is);
      reading = tt;
      stops = tt;
    }
