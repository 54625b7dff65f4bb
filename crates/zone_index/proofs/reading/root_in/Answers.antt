-- Memory runs out behind the digest, which is right.
use Rattle.zone_index.specs.EncodingReading.{IsSigned}
use Rattle.zone_index.proofs.ReadSteps.{always, signed_then}
use Rattle.zone_index.proofs.reading.root_in.Goals as goal

pub returns-in_err-root-clause-signed : goal.returns-in_err-root-clause-signed
returns-in_err-root-clause-signed c =
    let signed : IsSigned c.args.bytes.now = ((c.in_ok-content.content.now, c.in_ok-content.rest.now), signed_then c.args.bytes.now c.in_ok-rest.rest.now c.in_ok-rest-2.rest.now _ c.in_ok-rest.ensures.read c.in_ok-rest-2.ensures.read c.in_ok-content.ensures.read) in
    always c.from_residual-in_err-root.result _ (λ e _. signed)
