-- The scalar that stands there, or one more.
use Rattle.std.proofs.Common.{rules}
use Rattle.record_rows.proofs.Reading.{kept_before, put_behind, reaches_behind, stands_at}
use Rattle.record_rows.proofs.rows.fill_at.Goals as goal

pub returns-then-place-len-clause-put : goal.returns-then-place-len-clause-put
returns-then-place-len-clause-put c = stands_at c.args.row.now.items c.args.place (search rules)

pub returns-else-place-len-clause-put : goal.returns-else-place-len-clause-put
returns-else-place-len-clause-put c = put_behind c.push_any.result c.args.row.now.items c.push_any.new.row.items c.args.place _ c.push_any.ensures (search rules)

pub returns-else-place-len-clause-kept : goal.returns-else-place-len-clause-kept
returns-else-place-len-clause-kept c = kept_before c.push_any.result c.args.row.now.items c.push_any.new.row.items c.args.place _ c.push_any.ensures (search rules)

pub returns-else-place-len-clause-reaches : goal.returns-else-place-len-clause-reaches
returns-else-place-len-clause-reaches c = reaches_behind c.push_any.result c.args.row.now.items c.push_any.new.row.items c.args.place _ c.push_any.ensures (search rules)
