-- The encoding is given, or its length, or why there is none.
use Rattle.std.proofs.Common.{inl, inr}
use Rattle.vortex_c.specs.FilterSql.{IsPreparedFrom}
use Rattle.vortex_c.proofs.PartSteps.{encoding_answered, encoding_unanswered}
use Rattle.vortex_c.proofs.sql.doqallin_prepare_filter.Goals as goal

pub returns-in-Ok-clause-answer : goal.returns-in-Ok-clause-answer
returns-in-Ok-clause-answer c =
    encoding_answered (IsPreparedFrom c.args.depth c.args.words.now c.args.columns.now) c.in-Ok.bytes.items c.as_slice.result.now _ _ _ _ _ c.in-Ok.ensures.prepared c.as_slice.ensures.value
    c.give.ensures.statuses c.give.ensures.count c.give.ensures.within c.give.ensures.given c.give.ensures.rest c.give.ensures.small c.give.ensures.kept

pub returns-in-Ok-clause-refused : goal.returns-in-Ok-clause-refused
returns-in-Ok-clause-refused c = inl c.give.ensures.statuses

pub returns-in-Err-clause-answer : goal.returns-in-Err-clause-answer
returns-in-Err-clause-answer c = encoding_unanswered (IsPreparedFrom c.args.depth c.args.words.now c.args.columns.now) _ _ _ c.tell.ensures.refused

pub returns-in-Err-clause-refused : goal.returns-in-Err-clause-refused
returns-in-Err-clause-refused c = inr (c.in-Err.refusal, c.in-Err.ensures.refused, c.tell.ensures.status, c.tell.ensures.mistake)

pub returns-in-Err-clause-kept_mistake : goal.returns-in-Err-clause-kept_mistake
returns-in-Err-clause-kept_mistake c = λ has. absurd (c.tell.ensures.refused has)
