-- The encoding is given, or its length, or nothing.
use Rattle.column_statistics.specs.Encodings.{IsColumnEncoding}
use Rattle.vortex_c.proofs.PartSteps.{encoding_answered, encoding_unanswered}
use Rattle.vortex_c.proofs.statistics.doqallin_column_statistics.Goals as goal

pub returns-in-Ok-clause-answer : goal.returns-in-Ok-clause-answer
returns-in-Ok-clause-answer c =
    encoding_answered (IsColumnEncoding c.args.column.now c.args.max_length) c.in-Ok.bytes.items c.as_slice.result.now _ _ _ _ _ c.in-Ok.ensures.encoding c.as_slice.ensures.value
    c.give.ensures.statuses c.give.ensures.count c.give.ensures.within c.give.ensures.given c.give.ensures.rest c.give.ensures.small c.give.ensures.kept

pub returns-in-Err-clause-answer : goal.returns-in-Err-clause-answer
returns-in-Err-clause-answer c = encoding_unanswered (IsColumnEncoding c.args.column.now c.args.max_length) _ _ _ c.tell_encoding.ensures.refused
