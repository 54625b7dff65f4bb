-- A line without quotes leads from outside of quotes to the start of a record.
use Rattle.std.proofs.Common.{ap, ◌∙◌, not}
use Rattle.csv_records.proofs.Walking.{after_plain_line}
use Rattle.csv_records.proofs.states.is_plain_line.Goals as goal

pub returns-in-len1-up : goal.returns-in-len1-up
returns-in-len1-up c = λ is.
    after_plain_line c.args.delimiter.byte c.args.state c.args.line.now c.memchr.result c.in_default.not-InQuoted c.args.delimiter.no_feed c.in-len1-up.len_at_least c.if-last-eq10.true
    (c.is_none.ensures ∙ ap not is) c.memchr.ensures
