-- A piece more, the first error, and nothing but pieces.
use Rattle.std.proofs.Common.{List, ℕ, ap, arith, get_or}
use Rattle.std.proofs.lemmas.Result.{err_from_is_err_and}
use Rattle.zone_index.specs.Encoding.{with_statistics, zone_value}
use Rattle.zone_index.proofs.ReadSteps.{dealt_begins, dealt_done, dealt_fails, dealt_more, dealt_trails}
use Rattle.zone_index.proofs.blocks.add_pieces.Goals as goal

pub loop-zone-init : goal.loop-zone-init
loop-zone-init c = dealt_begins zone_value with_statistics c.args.zones.now c.args.bytes.now

pub returns-in_err-piece : goal.returns-in_err-piece
returns-in_err-piece c =
    let p = err_from_is_err_and c.from_residual.result c.from_residual.ensures.1 in
    rw (p.1, p.2) (dealt_fails zone_value with_statistics c.args.zones.now c.loop-zone.zones c.args.bytes.now c.loop-zone.rest.now c.loop-zone.zone-index c.in_err-piece.field-0.0 c.zone-item.result (omega (arith, c.loop-zone-test.true, c.loop-zone.auto.zones)) c.in_err-piece.ensures.read c.loop-zone.invariant)

pub loop-zone-preserved : goal.loop-zone-preserved
loop-zone-preserved c =
    dealt_more zone_value with_statistics c.args.zones.now c.loop-zone.zones c.args.bytes.now c.loop-zone.rest.now c.in_ok-piece.piece.now c.in_ok-piece.after.now c.loop-zone.zone-index (record (get_or c.loop-zone.zones c.loop-zone.zone-index c.zone-item.result) { statistics = c.extend_from_slice.new.self }) c.zone-item.result (omega (arith, c.loop-zone-test.true, c.loop-zone.auto.zones)) c.in_ok-piece.ensures.read
    (ap (λ (s : List ℕ). record (zone_value (get_or c.loop-zone.zones c.loop-zone.zone-index c.zone-item.result)) { statistics = s }) c.in_ok-extend_from_slice.ensures.items) c.loop-zone.invariant

pub returns-then-is_empty : goal.returns-then-is_empty
returns-then-is_empty c = dealt_done zone_value with_statistics c.args.zones.now c.loop-zone.zones c.args.bytes.now c.loop-zone.rest.now c.loop-zone.zone-index c.is_empty.result (omega (arith, c.loop-zone-test.false, c.loop-zone.auto.zones)) c.is_empty.ensures c.if-is_empty.true c.loop-zone.invariant

pub returns-else-is_empty : goal.returns-else-is_empty
returns-else-is_empty c = dealt_trails zone_value with_statistics c.args.zones.now c.loop-zone.zones c.args.bytes.now c.loop-zone.rest.now c.loop-zone.zone-index c.is_empty.result (omega (arith, c.loop-zone-test.false, c.loop-zone.auto.zones)) c.is_empty.ensures c.if-is_empty.false c.loop-zone.invariant
