-- Each null has one byte.
use Rattle.std.proofs.Common.{◌^◌, ◌<◌, arith}
use Rattle.column_keys.proofs.NullSteps.{null-rows}
use Rattle.column_keys.proofs.lengths.column_keys_length.Goals as goal

pub returns-in-Nulls : goal.returns-in-Nulls
returns-in-Nulls c =
    let few : c.args.count < 2 ^ 64 = omega (arith, c.ranges.count) in
    null-rows c.args.rows.now _ c.args.count c.in-Nulls.is c.requires.rows few
