-- What was dealt and what is still dealt are what all gives.
use Rattle.std.proofs.Common.{◌++◌}
use Rattle.zone_index.proofs.ReadSteps.{IsDealtSoFar}
use Rattle.zone_index.proofs.writing.deal.Given as goal

abbrev pub invariant-loop-block : goal.invariant-loop-block
invariant-loop-block l = IsDealtSoFar (λ b. b.items) (λ b piece. b ++ piece) l.initial.blocks l.bytes l.block-index l.blocks l.rest
