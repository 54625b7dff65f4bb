-- One mark more; the name with those so far is one of these.
use Rattle.std.proofs.Common.{inl, inr, rules}
use Rattle.std.specs.Prelude.{string_bytes}
use Rattle.csv_columns.specs.Names.{texts}
use Rattle.csv_columns.proofs.Naming.{one_more_mark}
use Rattle.csv_columns.proofs.names.free_name.Goals as goal
use Rattle.csv_columns.proofs.names.free_name.Goals.{then-stands_in, else-stands_in+then-stands_in-2}

pub loop-name-preserved : goal.loop-name-preserved
loop-name-preserved c =
    one_more_mark (texts c.args.given.now) (texts c.args.names.now) (string_bytes c.args.first) (string_bytes c.loop-name.name) (string_bytes c.push.new.self) c.loop-name.invariant (search rules)
    (elim c.if-stands_in.branch [ then-stands_in w ↦ inl (search rules) | else-stands_in+then-stands_in-2 w ↦ inr (search rules) ])
