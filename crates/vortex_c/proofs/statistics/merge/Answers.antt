-- The encoding is given, or its length, or nothing.
use Rattle.std.proofs.Common.{ap, arith, inr, length}
use Rattle.vortex_c.specs.Statistics.{IsMergedAt}
use Rattle.vortex_c.proofs.Lengths.{merged_short}
use Rattle.vortex_c.proofs.PartSteps.{encoding_answered, encoding_unanswered}
use Rattle.vortex_c.proofs.statistics.merge.Goals as goal

pub returns-in-Ok-clause-answer : goal.returns-in-Ok-clause-answer
returns-in-Ok-clause-answer c =
    let merged : IsMergedAt c.args.kind c.args.one.now c.args.other.now c.in-Ok.bytes.items = record { kind = c.in-Some.kind; is_kind = c.in-Some.is; merged = c.in-Ok.ensures.encoding } in
    encoding_answered (IsMergedAt c.args.kind c.args.one.now c.args.other.now) c.in-Ok.bytes.items c.as_slice.result.now _ _ _ _ _ merged c.as_slice.ensures.value
    c.give.ensures.statuses c.give.ensures.count c.give.ensures.within c.give.ensures.given c.give.ensures.rest c.give.ensures.small c.give.ensures.kept

pub returns-in-Err-clause-answer : goal.returns-in-Err-clause-answer
returns-in-Err-clause-answer c = encoding_unanswered (IsMergedAt c.args.kind c.args.one.now c.args.other.now) _ _ _ c.tell_merge.ensures.refused

pub returns-in-Ok-clause-enough : goal.returns-in-Ok-clause-enough
returns-in-Ok-clause-enough c = λ long small.
    absurd (omega (arith, long, c.give.ensures.small small, ap length c.as_slice.ensures.value, merged_short c.in-Some.kind c.args.one.now c.args.other.now c.in-Ok.bytes.items c.in-Ok.ensures.encoding))

pub returns-in-Err-clause-enough : goal.returns-in-Err-clause-enough
returns-in-Err-clause-enough c = λ long small. absurd (c.tell_merge.ensures.refused (inr small))
