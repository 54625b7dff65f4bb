-- That memory holds what was written.
use Rattle.std.proofs.Common.{OnOk, option_map, subst}
use Rattle.statistics_bytes.specs.Encoding.{IsHeldBound}
use Rattle.vortex_statistics.specs.Statistics.{known, known_bound}
use Rattle.statistics_bytes.proofs.WriteSteps.{encoding_held}
use Rattle.statistics_bytes.proofs.writing.append_encoding.Goals as goal

pub returns-clause-held : goal.returns-clause-held
returns-clause-held c =
    encoding_held c.append_bounds.result (known c.args.statistics.now) c.append_count.ensures.fits c.append_known.ensures.fits
    (subst (λ b. OnOk c.append_bounds.result (IsHeldBound (option_map known_bound b))) c.as_ref.ensures.value c.append_bounds.ensures.held_lower)
    (subst (λ b. OnOk c.append_bounds.result (IsHeldBound (option_map known_bound b))) c.as_ref-2.ensures.value c.append_bounds.ensures.held_upper)
