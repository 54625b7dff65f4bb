-- A field without quotes.
use Rattle.std.proofs.Common.{[], false}
use Rattle.csv.specs.declared.parser.State.TheVariants.{InField, StartField}
use Rattle.csv_records.proofs.Fielding.{cut_along, starts_bare}
use Rattle.csv_records.proofs.fields.cut_field.Goals as goal

pub returns-in-None-clause-cut : goal.returns-in-None-clause-cut
returns-in-None-clause-cut c =
    let d = c.args.delimiter.byte in
    let text = c.args.text.now in
    cut_along d StartField [] false text InField [] false text (record { text = c.cut_bare.result.0.now; is_quoted = false }) c.cut_bare.result.1
    (starts_bare d [] false text c.in-None.ensures.none) (c.cut_bare.ensures [] false)
