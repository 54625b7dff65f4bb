use Rattle.std.proofs.Common.{◌∙◌, refl, ap, subst, Some}
use Rattle.jiff_core.specs.DateTime.{IsCivilNanos}
use Rattle.logical_types.specs.Times.{moment_written}
use Rattle.logical_types.proofs.TimestampWords.{civil_reads, moment_first, moment_of_units}
use Rattle.logical_types.proofs.times.word_of_timestamp.Goals as goal

pub returns-in-Ok-clause-some : goal.returns-in-Ok-clause-some
returns-in-Ok-clause-some c =
    let e = moment_of_units c.args.unit c.args.timestamp c.nanoseconds.result c.ranges.timestamp c.nanoseconds.ensures in
    (λ h. record { fits = c.ranges.timestamp; dated = subst IsCivilNanos e (c.in-Ok.ensures.succeeds.0 refl) }, λ h. refl)

pub returns-in-Ok-clause-word : goal.returns-in-Ok-clause-word
returns-in-Ok-clause-word c =
    let e = moment_of_units c.args.unit c.args.timestamp c.nanoseconds.result c.ranges.timestamp c.nanoseconds.ensures in
    let read = ap (moment_written c.args.is_zoned) c.word_of_civil.ensures ∙ civil_reads c.args.is_zoned c.in-Ok.civil in
    record {
      is = record { fits = c.ranges.timestamp; dated = subst IsCivilNanos e (c.in-Ok.ensures.succeeds.0 refl) };
      moment = moment_first c.args.is_zoned c.word_of_civil.result.bytes _ (read ∙ ap Some (c.in-Ok.ensures.value ∙ e));
    }

pub returns-in-Ok-clause-text : goal.returns-in-Ok-clause-text
returns-in-Ok-clause-text c =
    let e = moment_of_units c.args.unit c.args.timestamp c.nanoseconds.result c.ranges.timestamp c.nanoseconds.ensures in
    record { civil = c.in-Ok.civil; counted = c.in-Ok.ensures.value ∙ e; written = c.word_of_civil.ensures }
