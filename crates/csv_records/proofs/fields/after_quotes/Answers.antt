-- After the quotes the field goes on without.
use Rattle.std.proofs.Common.{◌++◌, true}
use Rattle.csv.specs.declared.parser.State.TheVariants.{AfterQuote, InField}
use Rattle.csv_records.proofs.Fielding.{after_quote, cut_along}
use Rattle.csv_records.proofs.fields.after_quotes.Goals as goal

pub returns : goal.returns
returns c =
    let d = c.args.delimiter.byte in
    let text = c.args.text.now in
    let buffer = c.args.buffer.now.items in
    rw c.in_ok-extend_from_slice.ensures.items (cut_along d AfterQuote buffer true text InField buffer true text (record { text = buffer ++ c.cut_bare.result.0.now; is_quoted = true }) c.cut_bare.result.1
    (after_quote d buffer text c.requires) (c.cut_bare.ensures buffer true))
