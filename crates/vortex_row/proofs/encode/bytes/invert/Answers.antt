-- One byte more is inverted round.
use Rattle.std.proofs.Common.{◌-◌, ◌<◌, length, get_or, arith}
use Rattle.std.proofs.lemmas.List.Edits.{map_over_more}
use Rattle.std.proofs.lemmas.Grind.{common_steps}
use Rattle.vortex_row.proofs.encode.bytes.invert.Goals as goal

pub loop-byte-preserved : goal.loop-byte-preserved
loop-byte-preserved c =
    let inside : c.loop-byte.byte-index < length c.args.bytes.now = omega (arith, c.loop-byte-test.true, c.loop-byte.auto.bytes) in
    map_over_more (λ b. 255 - b) c.args.bytes.now c.loop-byte.bytes c.loop-byte.byte-index (get_or c.loop-byte.bytes c.loop-byte.byte-index 0) inside c.loop-byte.invariant (grind (arith, common_steps))
