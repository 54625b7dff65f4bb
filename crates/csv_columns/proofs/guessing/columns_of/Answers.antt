-- One column more.
use Rattle.std.proofs.Common.{◌≡◌, ◌+◌, ◌∙◌, ◌++◌, ◌∷◌, [], List, ap, length, length-append, refl, rules, subst, sym, ℕ}
use Rattle.std.specs.Prelude.{if◌then◌else◌, nat_lt}
use Rattle.csv_columns.specs.Guesses.{AreColumns, HaveNumbers, column_names}
use Rattle.csv_columns.specs.Kinds.{Sees}
use Rattle.csv_columns.specs.Names.{texts}
use Rattle.csv_columns.specs.declared.column_words.NamedColumn.{NamedColumn}
use Rattle.csv_columns.proofs.Columns.{column_named, columns_more, flags_more}
use Rattle.csv_columns.proofs.guessing.columns_of.Goals as goal

pub loop-name-preserved : goal.loop-name-preserved
loop-name-preserved c =
    let at = c.loop-name in
    let old = at.columns.items in
    let flags = at.have_numbers.items in
    let named : NamedColumn = record { name = c.in-Some.name; column = c.column_of_guess.result } in
    let flag = c.has_numbers_as_text.result in
    let more = c.in_ok-push-2.ensures.items in
    let more_flags = c.in_ok-push.ensures.items in
    let place : c.len.result ≡ length old = search rules in
    let wide : length (old ++ named ∷ []) ≡ length old + 1 = length-append old (named ∷ []) in
    let wide_flags : length (flags ++ flag ∷ []) ≡ length flags + 1 = length-append flags (flag ∷ []) in
    let seen = c.guess_at-guess.ensures in (
      subst (λ (x : List NamedColumn). column_names x ≡ texts (at.yielded ++ c.in-Some.name ∷ [])) (sym more)
          (column_named old at.yielded named c.in-Some.name at.invariant.0 refl),
      ap length more_flags ∙ wide_flags ∙ ap (λ (n : ℕ). n + 1) at.invariant.1 ∙ sym (ap length more ∙ wide),
      (λ words see.
          let each = λ (k : ℕ). if nat_lt k (length c.args.guesses.now) then words k else [] in
          let sees : Sees c.guess_at-guess.result (each (length old)) = subst (λ (n : ℕ). Sees c.guess_at-guess.result (each n)) place (seen words see) in
          subst (AreColumns each) (sym more) (columns_more each old named (at.invariant.2 words see) (c.column_of_guess.ensures (each (length old)) sees))),
      (λ words see.
          let each = λ (k : ℕ). if nat_lt k (length c.args.guesses.now) then words k else [] in
          let here : c.len.result ≡ length flags = place ∙ sym at.invariant.1 in
          let sees : Sees c.guess_at-guess.result (each (length flags)) = subst (λ (n : ℕ). Sees c.guess_at-guess.result (each n)) here (seen words see) in
          subst (HaveNumbers each) (sym more_flags) (flags_more each flags flag (at.invariant.3 words see) (c.has_numbers_as_text.ensures (each (length flags)) sees))),
    )
