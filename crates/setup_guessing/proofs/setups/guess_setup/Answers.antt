-- The header, the records behind it, and the columns.
use Rattle.std.proofs.Common.{◌≡◌, ℕ, refl, rules, subst}
use Rattle.std.specs.Prelude.{if◌then◌else◌}
use Rattle.csv_columns.specs.Setups.{IsDelimiter}
use Rattle.setup_guessing.specs.Records.{IsFront}
use Rattle.setup_guessing.proofs.Guesses.{columns_are, names_kept}
use Rattle.setup_guessing.proofs.setups.guess_setup.Goals as goal

pub returns-clause-guessed : goal.returns-clause-guessed
returns-clause-guessed c =
    let first = c.first_records in
    let second = c.first_records-2 in
    let by = c.in-Some.ensures.value in
    let count : c.from.result ≡ (if c.args.has_header then 1 else 0) = search rules in
    record {
      header = first.result.0.now;
      behind = first.result.1.now;
      first = second.result.0.now;
      others = second.result.1.now;
      header_is = subst (λ (n : ℕ). IsFront c.args.given.numbers.delimiter n c.args.is_all c.args.text.now first.result.0.now first.result.1.now) count
          (subst (λ (d : ℕ). IsFront d c.from.result c.args.is_all c.args.text.now first.result.0.now first.result.1.now) by first.ensures);
      first_is = subst (λ (d : ℕ). IsFront d 1000 c.args.is_all first.result.1.now second.result.0.now second.result.1.now) by second.ensures;
      start_is = refl;
      columns = columns_are _ _ _ _ first.result.0.now second.result.0.now c.args.given.columns.items c.in_ok-columns.columns.items by c.deref.ensures.value c.in_ok-columns.ensures;
      numbers = refl;
      nulls = refl;
      delimiter = subst IsDelimiter by (c.in-Some.delimiter.no_feed, c.in-Some.delimiter.no_return, c.in-Some.delimiter.no_quote);
    }

pub returns-clause-valid : goal.returns-clause-valid
returns-clause-valid c = λ valid.
    record {
      numbers = valid.numbers;
      nulls = valid.nulls;
      names = names_kept _ _ _ _ c.args.given.columns.items c.in_ok-columns.columns.items c.in_ok-columns.ensures valid.names;
    }
