-- The records of a text are the text.
use Rattle.std.proofs.Common.{◌≡◌, [], arith, rules, sym}
use Rattle.std.proofs.lemmas.Grind.{common_steps}
use Rattle.std.proofs.lemmas.List.{nil_from_length}
use Rattle.zone_index.proofs.Sinking.{whole_plain}
use Rattle.zone_index.proofs.sinks.PlainSinkSink.all_matched.Goals as goal

pub returns-then-is_empty-clause-taken : goal.returns-then-is_empty-clause-taken
returns-then-is_empty-clause-taken g c =
    let none : c.args.self.now.lines.items ≡ [] = first_of (search (rules, nil_from_length), grind (arith, common_steps, nil_from_length)) in
    rw none (sym (whole_plain c.args._delimiter.byte c.args._first c.args.lines.items))

pub returns-else-is_empty-clause-taken : goal.returns-else-is_empty-clause-taken
returns-else-is_empty-clause-taken g c =
    rw (whole_plain c.args._delimiter.byte c.args._first c.args.lines.items) (first_of (search rules, grind (arith, common_steps)))
