-- The whole encoding, or the first byte that none has.
use Rattle.std.proofs.Common.{length, rules, refl}
use Rattle.filter_encoding.specs.Strings.{left}
use Rattle.filter_encoding.proofs.EncodingLaws.{bad_bad, bad_whole, ok_bad, ok_memory, ok_no_value, ok_read, ok_refused, ok_whole, wrong_at}
use Rattle.filter_encoding.proofs.reading.read_filter.Goals as goal

pub returns-in-Ok-clause-read : goal.returns-in-Ok-clause-read
returns-in-Ok-clause-read c = ok_read c.args.depth c.in-Ok.prepared c.args.bytes.now (left c.read_encoding-answer.new.reader) (length c.read_encoding-answer.new.reader.rest.now) c.saturating_sub-taken.result refl c.saturating_sub-taken.ensures c.whole_or_bad.ensures.bound c.in-Ok.ensures.read c.whole_or_bad.result c.whole_or_bad.ensures.answer

pub returns-in-Ok-clause-whole : goal.returns-in-Ok-clause-whole
returns-in-Ok-clause-whole c = ok_whole c.args.depth c.in-Ok.prepared c.args.bytes.now (left c.read_encoding-answer.new.reader) (length c.read_encoding-answer.new.reader.rest.now) c.saturating_sub-taken.result refl c.saturating_sub-taken.ensures c.whole_or_bad.ensures.bound c.in-Ok.ensures.read c.whole_or_bad.result c.whole_or_bad.ensures.answer

pub returns-in-Ok-clause-no_value : goal.returns-in-Ok-clause-no_value
returns-in-Ok-clause-no_value c = ok_no_value c.args.depth c.in-Ok.prepared c.args.bytes.now (left c.read_encoding-answer.new.reader) (length c.read_encoding-answer.new.reader.rest.now) c.saturating_sub-taken.result refl c.saturating_sub-taken.ensures c.whole_or_bad.ensures.bound c.in-Ok.ensures.read c.whole_or_bad.result c.whole_or_bad.ensures.answer

pub returns-in-Ok-clause-memory : goal.returns-in-Ok-clause-memory
returns-in-Ok-clause-memory c = ok_memory c.args.depth c.in-Ok.prepared c.args.bytes.now (left c.read_encoding-answer.new.reader) (length c.read_encoding-answer.new.reader.rest.now) c.saturating_sub-taken.result refl c.saturating_sub-taken.ensures c.whole_or_bad.ensures.bound c.in-Ok.ensures.read c.whole_or_bad.result c.whole_or_bad.ensures.answer

pub returns-in-Ok-clause-bad : goal.returns-in-Ok-clause-bad
returns-in-Ok-clause-bad c = ok_bad c.args.depth c.in-Ok.prepared c.args.bytes.now (left c.read_encoding-answer.new.reader) (length c.read_encoding-answer.new.reader.rest.now) c.saturating_sub-taken.result refl c.saturating_sub-taken.ensures c.whole_or_bad.ensures.bound c.in-Ok.ensures.read c.whole_or_bad.result c.whole_or_bad.ensures.answer

pub returns-in-Ok-clause-refused : goal.returns-in-Ok-clause-refused
returns-in-Ok-clause-refused c = ok_refused c.args.depth c.in-Ok.prepared c.args.bytes.now (left c.read_encoding-answer.new.reader) (length c.read_encoding-answer.new.reader.rest.now) c.saturating_sub-taken.result refl c.saturating_sub-taken.ensures c.whole_or_bad.ensures.bound c.in-Ok.ensures.read c.whole_or_bad.result c.whole_or_bad.ensures.answer

pub returns-in-Err-Bad-clause-whole : goal.returns-in-Err-Bad-clause-whole
returns-in-Err-Bad-clause-whole c =
    let stuck = rw c.in-Err-Bad.is at c.read_encoding-answer.ensures.read in
    bad_whole c.args.depth c.args.bytes.now c.saturating_sub-taken.result (wrong_at c.args.depth c.args.bytes.now (left c.read_encoding-answer.new.reader) (length c.read_encoding-answer.new.reader.rest.now) c.saturating_sub-taken.result refl c.saturating_sub-taken.ensures (stuck (search rules)))

pub returns-in-Err-Bad-clause-bad : goal.returns-in-Err-Bad-clause-bad
returns-in-Err-Bad-clause-bad c =
    let stuck = rw c.in-Err-Bad.is at c.read_encoding-answer.ensures.read in
    bad_bad c.args.depth c.args.bytes.now c.saturating_sub-taken.result (wrong_at c.args.depth c.args.bytes.now (left c.read_encoding-answer.new.reader) (length c.read_encoding-answer.new.reader.rest.now) c.saturating_sub-taken.result refl c.saturating_sub-taken.ensures (stuck (search rules))) _ refl
