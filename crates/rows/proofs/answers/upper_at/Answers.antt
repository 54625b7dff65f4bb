-- What the upper bound prints as.
use Rattle.std.proofs.Common.{subst}
use Rattle.vortex_bounds.specs.Strings.{IsString}
use Rattle.rows.proofs.Bounds.{is_match, upper_text, upper_typed}
use Rattle.rows.proofs.answers.upper_at.Goals as goal

pub returns-in-Some-clause-text : goal.returns-in-Some-clause-text
returns-in-Some-clause-text c =
    upper_text _ _ _ _ _ _ c.bounds_are_computed.ensures c.bounds_are_unique.ensures
    (subst IsString c.as_slice.ensures c.items_are_bytes.ensures)
    (is_match _ _ _ _ c.in-Some.is c.in-Ok.ensures.bound) c.bytes_of.ensures

pub bytes_of-requires-clause-typed : goal.bytes_of-requires-clause-typed
bytes_of-requires-clause-typed c = upper_typed _ _ _ _ _ _ c.in-Some.is c.in-Ok.ensures.bound
