-- The header names others, or does not.
use Rattle.std.proofs.Common.{◌≡◌, ◌≢◌, ◌==◌, ◌∙◌, List, [], false, length, subst, sym, true}
use Rattle.csv_columns.specs.declared.column_words.NamedColumn.{NamedColumn}
use Rattle.setup_guessing.proofs.Guesses.{needed_of, ok_then}
use Rattle.setup_guessing.proofs.columns.needs_guesses.Goals as goal

pub returns : goal.returns
returns c =
    let given = c.args.given.now in
    let long : (length given == 0) ≡ false = sym c.is_empty.ensures ∙ c.if-is_empty.false in
    let any : given ≢ [] = λ nil.
    let never : true ≡ false = subst (λ (l : List NamedColumn). (length l == 0) ≡ false) nil long in
    absurd cc in
    ok_then c.names_others.result _ _ c.names_others.ensures (λ named h. needed_of c.args.delimiter.byte c.args.header.now given named any h)
