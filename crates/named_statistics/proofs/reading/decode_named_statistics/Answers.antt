-- The refusal is that of the reading.
use Rattle.std.proofs.Common.{◌≡◌, Err, rules}
use Rattle.vortex_dtype.specs.TypeOf.{type_of}
use Rattle.vortex_statistics.specs.declared.error.StatisticsError.TheVariants.{HasVariant}
use Rattle.statistics_bytes.proofs.ReadSteps.{passed_on}
use Rattle.named_statistics.specs.Named.{SaysNamedVariant}
use Rattle.named_statistics.proofs.reading.decode_named_statistics.Goals as goal

pub returns-in_err-decode_by_head_into-clause-variant : goal.returns-in_err-decode_by_head_into-clause-variant
returns-in_err-decode_by_head_into-clause-variant c =
    let e = c.in_err-decode_by_head_into.field-0.0 in
    let is : c.from_residual.result ≡ Err e = search rules in
    rw is (passed_on e HasVariant (SaysNamedVariant (type_of c.args.dtype.now) c.args.bytes.now) c.in_err-decode_by_head_into.ensures.variant)
