-- A line without a quote ends the record.
use Rattle.std.proofs.Common.{◌+◌, refl}
use Rattle.csv_records.proofs.Cutting.{plain_ended, plain_ends}
use Rattle.csv_records.proofs.records.plain_end.Goals as goal

pub returns-then-text-place-eq10-clause-ends : goal.returns-then-text-place-eq10-clause-ends
returns-then-text-place-eq10-clause-ends c = plain_ends c.args.delimiter.byte c.args.text.now c.in_ok-place.place (c.in_ok-place.place + 1) c.args.delimiter.no_feed refl c.in_ok-place.ensures.0 c.if-text-place-eq10.true

pub returns-then-text-place-eq10-clause-cut : goal.returns-then-text-place-eq10-clause-cut
returns-then-text-place-eq10-clause-cut c = (plain_ended c.args.delimiter.byte c.args.text.now c.in_ok-place.place (c.in_ok-place.place + 1) c.args.delimiter.no_feed refl c.in_ok-place.ensures.0 c.if-text-place-eq10.true).cut

pub returns-then-text-place-eq10-clause-rows : goal.returns-then-text-place-eq10-clause-rows
returns-then-text-place-eq10-clause-rows c = (plain_ended c.args.delimiter.byte c.args.text.now c.in_ok-place.place (c.in_ok-place.place + 1) c.args.delimiter.no_feed refl c.in_ok-place.ensures.0 c.if-text-place-eq10.true).rows
