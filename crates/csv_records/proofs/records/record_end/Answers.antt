-- A line that ends the record, one that does not, and none.
use Rattle.std.proofs.Common.{ℕ, ap, arith, take, drop}
use Rattle.std.proofs.lemmas.List.{take_rest}
use Rattle.csv_records.specs.Records.{state_at}
use Rattle.csv_records.proofs.Cutting.{ended, goes_on, next_feed, only_rest}
use Rattle.csv_records.proofs.records.record_end.Goals as goal

pub returns-in-StartRecord-clause-cut : goal.returns-in-StartRecord-clause-cut
returns-in-StartRecord-clause-cut c =
    let end = c.loop-feed.end in
    let feed = c.in-Some.feed in
    let text = c.args.text.now in
    (ended c.args.delimiter.byte text _ end feed c.loop-feed.state c.state_after_line-state.result (next_feed text end feed c.in-Some.ensures)
    (ap (λ (n : ℕ). take n (drop end text)) (omega arith)) c.state_after_line-state.ensures c.in-StartRecord.is c.loop-feed.invariant).cut

pub returns-in-StartRecord-clause-rows : goal.returns-in-StartRecord-clause-rows
returns-in-StartRecord-clause-rows c =
    let end = c.loop-feed.end in
    let feed = c.in-Some.feed in
    let text = c.args.text.now in
    (ended c.args.delimiter.byte text _ end feed c.loop-feed.state c.state_after_line-state.result (next_feed text end feed c.in-Some.ensures)
    (ap (λ (n : ℕ). take n (drop end text)) (omega arith)) c.state_after_line-state.ensures c.in-StartRecord.is c.loop-feed.invariant).rows

pub loop-feed-preserved : goal.loop-feed-preserved
loop-feed-preserved c =
    let end = c.loop-feed.end in
    let feed = c.in-Some.feed in
    let text = c.args.text.now in
    goes_on c.args.delimiter.byte text _ end feed c.loop-feed.state c.state_after_line-state.result (next_feed text end feed c.in-Some.ensures)
    (ap (λ (n : ℕ). take n (drop end text)) (omega arith)) c.state_after_line-state.ensures c.in_default-state.not-StartRecord c.loop-feed.invariant

pub returns-clause-none : goal.returns-clause-none
returns-clause-none c =
    only_rest c.args.delimiter.byte c.args.text.now _ c.loop-feed.end (state_at c.loop-feed.state) (take_rest c.args.text.now c.loop-feed.end) c.in_default.ensures c.loop-feed.invariant
