-- Up to the next quote nothing happens.
use Rattle.std.proofs.Common.{sym, ap, ◌∙◌}
use Rattle.std.proofs.lemmas.List.{take_rest}
use Rattle.csv.specs.declared.parser.State.TheVariants as st
use Rattle.csv_records.specs.Rows.{state_after}
use Rattle.csv_records.proofs.Walking.{at_next_quote, no_next_quote}
use Rattle.csv_records.proofs.states.from_next_quote.Goals as goal

pub returns-in-Some-clause-state : goal.returns-in-Some-clause-state
returns-in-Some-clause-state c =
    rw c.in-InQuoted.is (at_next_quote c.args.delimiter.byte c.in-Some.quote c.args.bytes.now c.in-Some.ensures.0 ∙ ap (state_after c.args.delimiter.byte st.InQuoted) (sym (take_rest c.args.bytes.now c.in-Some.quote)))

pub returns-in-None-clause-state : goal.returns-in-None-clause-state
returns-in-None-clause-state c =
    rw c.in-InQuoted.is (no_next_quote c.args.delimiter.byte c.args.bytes.now c.in-None.ensures)
