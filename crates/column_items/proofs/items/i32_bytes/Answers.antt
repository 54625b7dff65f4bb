-- The bytes are those of the number.
use Rattle.std.specs.Int.{w32}
use Rattle.column_items.proofs.ByteSteps.{back_4, same_bytes}
use Rattle.column_items.proofs.items.i32_bytes.Goals as goal

pub returns-clause-bytes : goal.returns-clause-bytes
returns-clause-bytes c = same_bytes w32 c.args.number c.to_le_bytes.result c.ranges.number c.to_le_bytes.ensures

pub returns-clause-number : goal.returns-clause-number
returns-clause-number c = back_4 c.args.number c.to_le_bytes.result c.ranges.number (returns-clause-bytes c)
