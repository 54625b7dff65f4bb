use Rattle.std.proofs.Common.{arith, rules, length, ◌-◌, ◌<◌}
use Rattle.std.proofs.Output.{has_written_append}
use Rattle.std.specs.List.{flat_map}
use Rattle.vortex_value.specs.Texts.{two_digits}
use Rattle.vortex_value.proofs.TextSteps.{shortened_ends, last_five}
use Rattle.vortex_value.proofs.display.leaves.write_shortened_bytes.Goals as goal

pub returns : goal.returns
returns g c plain ok =
    let many : 10 < length c.args.bytes.now = c.if-bytes.false in
    let first = c.write_digits-2.ensures plain (search rules) in
    let points = c.write_str.ensures.writes first.plain (search rules) in
    let last = c.write_digits-3.ensures points.plain ok in
    let ends = rw (last_five (length c.args.bytes.now - (length c.args.bytes.now - 5)) c.args.bytes.now (omega arith)) at last in
    rw (shortened_ends (flat_map two_digits) c.args.bytes.now many) (has_written_append _ _ _ _ _ _ first (has_written_append _ _ _ _ _ _ points ends))
