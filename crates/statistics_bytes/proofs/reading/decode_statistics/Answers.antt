-- The refusal is that of the reading.
use Rattle.std.proofs.Common.{◌≡◌, Err, rules}
use Rattle.vortex_dtype.specs.TypeOf.{type_of}
use Rattle.vortex_statistics.specs.declared.error.StatisticsError.TheVariants.{HasVariant}
use Rattle.statistics_bytes.specs.EncodingAnswers.{SayVariant}
use Rattle.statistics_bytes.proofs.ReadSteps.{passed_on}
use Rattle.statistics_bytes.proofs.reading.decode_statistics.Goals as goal

pub returns-in_err-decode_statistics_into-clause-variant : goal.returns-in_err-decode_statistics_into-clause-variant
returns-in_err-decode_statistics_into-clause-variant c =
    let e = c.in_err-decode_statistics_into.field-0.0 in
    let is : c.from_residual.result ≡ Err e = search rules in
    rw is (passed_on e HasVariant (SayVariant (type_of c.args.dtype.now) c.args.bytes.now) c.in_err-decode_statistics_into.ensures.variant)
