-- Guessed, or as given.
use Rattle.std.proofs.Common.{List, inl, inr, refl, subst}
use Rattle.csv_columns.specs.Names.{texts}
use Rattle.csv_columns.specs.declared.column_words.NamedColumn.{NamedColumn}
use Rattle.setup_guessing.specs.Columns.{AreGuessedWith, NeedsGuesses}
use Rattle.setup_guessing.proofs.Guesses.{denied, said}
use Rattle.setup_guessing.proofs.columns.columns_for.Goals as goal

pub returns-in_ok-guessed : goal.returns-in_ok-guessed
returns-in_ok-guessed c =
    let d = c.args.delimiter.byte in
    let header = c.args.header.now in
    let needs : NeedsGuesses d header c.args.given.items = subst (NeedsGuesses d header) c.deref.ensures.value (said _ _ c.in_ok-needs_guesses.field-0 c.if-branch.true c.in_ok-needs_guesses.ensures) in
    inl (needs, subst (λ (l : List NamedColumn). AreGuessedWith d (texts c.args.nulls.now) header c.args.records.now l c.in_ok-guessed.guessed.columns.items) c.deref-then-branch.ensures.value c.in_ok-guessed.ensures.columns)

pub returns-else-branch : goal.returns-else-branch
returns-else-branch c =
    let d = c.args.delimiter.byte in
    let header = c.args.header.now in
    let none : ¬ (NeedsGuesses d header c.args.given.items) = subst (λ (l : List NamedColumn). ¬ (NeedsGuesses d header l)) c.deref.ensures.value (denied _ _ c.in_ok-needs_guesses.field-0 c.if-branch.false c.in_ok-needs_guesses.ensures) in
    inr (none, refl)
