-- What was prepared of a stream.
use Rattle.std.proofs.Common.{◌≡◌, ◌∙◌, ℕ, Bool, true, false, List, Option, Some, None, arith, ap, refl, rules, subst, sym}
use Rattle.std.specs.Prelude.{MatchBool, is_some}
use Rattle.csv_columns.specs.Names.{texts}
use Rattle.csv_columns.specs.declared.column_words.NamedColumn.{NamedColumn}
use Rattle.setup_guessing.specs.Columns.{AreGuessedWith, NeedsGuesses}
use Rattle.zone_map.specs.Preparing.{AreColumnsBy}
use Rattle.zone_map.proofs.preparing.prepare.Goals as goal
use Rattle.zone_map.proofs.preparing.prepare.Goals.{then-guesses+in_ok-with_guessed, else-guesses}

by_guessing : (b : Bool) (d : ℕ) (nulls : List (List ℕ)) (header first : List ℕ) (given columns : List NamedColumn) → b ≡ true → MatchBool b (NeedsGuesses d header given) (¬ (NeedsGuesses d header given)) → AreGuessedWith d nulls header first given columns
    → AreColumnsBy b d nulls header first given columns
by_guessing true d nulls header first given columns e needs made = (needs, made)
by_guessing false d nulls header first given columns e needs made = absurd cc

as_given : (b : Bool) (d : ℕ) (nulls : List (List ℕ)) (header first : List ℕ) (given columns : List NamedColumn) → b ≡ false → MatchBool b (NeedsGuesses d header given) (¬ (NeedsGuesses d header given)) → columns ≡ given
    → AreColumnsBy b d nulls header first given columns
as_given true d nulls header first given columns e needs same = absurd cc
as_given false d nulls header first given columns e needs same = (needs, same)

moved : (d : ℕ) (n n' : List (List ℕ)) (h h' f f' : List ℕ) (g g' columns : List NamedColumn) → n ≡ n' → h ≡ h' → f ≡ f' → g ≡ g' → AreGuessedWith d n h f g columns → AreGuessedWith d n' h' f' g' columns
moved d n n' h h' f f' g g' columns e1 e2 e3 e4 made =
    let one = subst (λ (x : List (List ℕ)). AreGuessedWith d x h f g columns) e1 made in
    let two = subst (λ (x : List ℕ). AreGuessedWith d n' x f g columns) e2 one in
    let three = subst (λ (x : List ℕ). AreGuessedWith d n' h' x g columns) e3 two in
    subst (λ (x : List NamedColumn). AreGuessedWith d n' h' f' x columns) e4 three

pub returns : goal.returns
returns g c =
    let begun = c.in_ok-header.field-0 in
    let d = c.in_ok-delimiter.delimiter.byte in
    let nulls = texts c.in_ok-nulls.nulls.items in
    let given = c.in_ok-given.given.items in
    let needs = rw (c.deref-2.ensures.value) at c.in_ok-header.ensures.guesses in
    record {
      header = begun.header.items;
      given = given;
      guesses = begun.guesses;
      delimiter = c.in_ok-delimiter.ensures.said;
      may_delimit = c.in_ok-delimiter.ensures.valid;
      lenient = refl;
      nulls = rw (c.deref.ensures.value) at c.in_ok-nulls.ensures.words;
      lines = rw (c.deref.ensures.value) at c.in_ok-nulls.ensures.lines;
      start = first_of (search rules, grind (arith, c.len.ensures));
      begun = c.in_ok-header.ensures.begun;
      none_given = c.in_ok-given.ensures;
      columns = elim c.if-guesses.branch [
        | then-guesses+in_ok-with_guessed w ↦ rw (w.columns-is) (by_guessing begun.guesses d nulls begun.header.items begun.first.items given w.in_ok-with_guessed.columns.items w.if-guesses.true needs
            (moved d _ nulls _ begun.header.items _ begun.first.items _ given w.in_ok-with_guessed.columns.items
            (ap texts w.deref-then-guesses.ensures.value) (cc) (cc) (cc) w.in_ok-with_guessed.ensures.columns))
        | else-guesses w ↦ rw (w.columns-is) (as_given begun.guesses d nulls begun.header.items begun.first.items given given w.if-guesses.false needs refl)
      ];
      told = elim c.if-guesses.branch [
        | then-guesses+in_ok-with_guessed w ↦ rw (w.columns-is) (w.in_ok-with_guessed.ensures.told ∙ sym w.if-guesses.true)
        | else-guesses w ↦ rw (w.columns-is) (sym w.if-guesses.false)
      ];
    }
