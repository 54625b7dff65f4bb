-- Up to the end of the field, and what follows.
use Rattle.std.proofs.Common.{◌++◌, ℕ, List, take, drop, subst}
use Rattle.std.proofs.lemmas.List.{take_rest}
use Rattle.csv.specs.declared.parser.State.TheVariants.{InField}
use Rattle.csv_records.specs.Fields.{IsCut}
use Rattle.csv_records.proofs.Fielding.{bare_leads, cut_along}
use Rattle.csv_records.proofs.fields.cut_bare.Goals as goal

pub returns : goal.returns
returns c = λ before quoted.
    let d = c.args.delimiter.byte in
    let text = c.args.text.now in
    let end = c.bare_end-end.result in
    let bare = before ++ take end text in
    cut_along d InField before quoted text InField bare quoted (drop end text) (record { text = bare; is_quoted = quoted }) c.after_bare.result
    (bare_leads d before quoted text end c.bare_end-end.ensures.joins)
    (subst (λ (l : List ℕ). IsCut d InField bare quoted l (record { text = bare; is_quoted = quoted }) c.after_bare.result) (take_rest text end) (c.after_bare.ensures bare quoted))
