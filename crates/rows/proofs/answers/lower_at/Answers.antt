-- What the lower bound prints as.
use Rattle.std.proofs.Common.{subst}
use Rattle.vortex_bounds.specs.Strings.{IsString}
use Rattle.rows.proofs.Bounds.{is_given, lower_text, lower_typed}
use Rattle.rows.proofs.answers.lower_at.Goals as goal

pub returns-clause-text : goal.returns-clause-text
returns-clause-text c =
    lower_text _ _ _ _ _ _ c.bounds_are_computed.ensures c.bounds_are_unique.ensures
    (subst IsString c.as_slice.ensures c.items_are_bytes.ensures)
    (is_given _ _ _ c.in-Some.is c.in-Ok.ensures.bound) c.bytes_of.ensures

pub bytes_of-requires-clause-typed : goal.bytes_of-requires-clause-typed
bytes_of-requires-clause-typed c = lower_typed _ _ _ _ _ c.in-Some.is c.in-Ok.ensures.bound
