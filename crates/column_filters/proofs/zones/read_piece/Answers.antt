-- What a piece says, or why it says nothing.
use Rattle.std.proofs.Common.{subst, sym}
use Rattle.vortex_dtype.specs.TypeOf.{type_of}
use Rattle.column_filters.specs.Zones.{IsBadAt}
use Rattle.column_filters.proofs.ZoneSteps.{bad_at, said_at}
use Rattle.column_filters.proofs.zones.read_piece.Goals as goal

pub returns-in-Ok-clause-said : goal.returns-in-Ok-clause-said
returns-in-Ok-clause-said c =
    said_at (type_of c.args.dtype.now) c.args.statistics.now c.args.offsets.now c.in_ok-bytes.bytes.now c.args.piece _ c.in_ok-bytes.ensures.0 c.in_ok-bytes.ensures.1 c.in-Ok.ensures.said

pub returns-in-Err-clause-refused : goal.returns-in-Err-clause-refused
returns-in-Err-clause-refused c =
    let t = type_of c.args.dtype.now in
    subst (IsBadAt t c.args.statistics.now c.args.offsets.now c.args.piece) (sym c.fault_of_piece.ensures)
    (bad_at t c.args.statistics.now c.args.offsets.now c.in_ok-bytes.bytes.now c.args.piece c.in-Err.refusal c.in_ok-bytes.ensures.0 c.in_ok-bytes.ensures.1 c.in-Err.ensures.refused)
