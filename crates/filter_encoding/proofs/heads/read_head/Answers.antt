-- A kind that may stand here, or a byte that may not.
use Rattle.filter_encoding.proofs.HeadLaws.{head_missing, head_read, head_too_deep, no_head}
use Rattle.filter_encoding.proofs.heads.read_head.Goals as goal

pub returns-in_default : goal.returns-in_default
returns-in_default c = head_missing c.args.depth _ c.in_default.ensures

pub returns-in_default-from_byte : goal.returns-in_default-from_byte
returns-in_default-from_byte c = no_head c.args.depth c.in-Some.byte _ c.in-Some.ensures.0 c.in-Some.ensures.1 c.in_default-from_byte.ensures

pub returns-then-is_within : goal.returns-then-is_within
returns-then-is_within c = (head_read c.in-Some.byte c.in-Some-from_byte.head _ _ c.in-Some.ensures c.in-Some-from_byte.ensures c.advance.ensures, c.is_within.ensures.within c.if-is_within.true)

pub returns-else-is_within : goal.returns-else-is_within
returns-else-is_within c = head_too_deep c.args.depth c.in-Some.byte c.in-Some-from_byte.head _ c.in-Some.ensures.0 c.in-Some.ensures.1 c.in-Some-from_byte.ensures (c.is_within.ensures.deep c.if-is_within.false)
