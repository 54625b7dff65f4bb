-- The row ends.
use Rattle.std.proofs.Common.{ℕ, List, ◌∷◌, get_or, subst}
use Rattle.std.proofs.lemmas.List.{take_rest}
use Rattle.csv.specs.declared.parser.State.TheVariants.{InField}
use Rattle.csv_records.specs.Fields.{IsCut}
use Rattle.csv_records.proofs.Fielding.{at_front}
use Rattle.csv_records.proofs.fields.after_bare.Goals as goal

pub returns-else-byte-delimiter : goal.returns-else-byte-delimiter
returns-else-byte-delimiter c = λ before quoted.
    at_front (λ (l : List ℕ). IsCut c.args.delimiter.byte InField before quoted l (record { text = before; is_quoted = quoted }) c.after_row.result) c.args.text.now c.in-len1-up.len_at_least (subst (λ (l : List ℕ). IsCut c.args.delimiter.byte InField before quoted (get_or c.args.text.now 0 0 ∷ l) (record { text = before; is_quoted = quoted }) c.after_row.result) (take_rest c.args.text.now 1) (c.after_row.ensures before quoted))
