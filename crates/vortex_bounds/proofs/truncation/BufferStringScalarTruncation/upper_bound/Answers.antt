use Rattle.std.proofs.Common.{refl}
use Rattle.vortex_bounds.proofs.TextBounds.{successor_is_upper}
use Rattle.vortex_bounds.proofs.truncation.BufferStringScalarTruncation.upper_bound.Goals as goal

pub returns-in-Ok : goal.returns-in-Ok
returns-in-Ok c = record {
  given = successor_is_upper _ _ _ _ c.in_ok-text_prefix.ensures.given c.in-Ok.ensures.given.0;
  inline = λ _. refl;
}
