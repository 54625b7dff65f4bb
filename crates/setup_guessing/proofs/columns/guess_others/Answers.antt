-- What is guessed, but for what is given.
use Rattle.std.proofs.Common.{◌≡◌, ◌∙◌, ap, arith, length, map, rules}
use Rattle.csv_columns.specs.Names.{texts}
use Rattle.setup_guessing.specs.Columns.{with_given}
use Rattle.setup_guessing.proofs.Guesses.{guessed_from, numbers_of, written_back}
use Rattle.setup_guessing.proofs.columns.guess_others.Goals as goal

pub returns-clause-columns : goal.returns-clause-columns
returns-clause-columns c =
    let items = c.in_ok-guessed.guessed.columns.items in
    let e = c.in_ok-guessed.ensures in
    let long : c.in_ok-guessed.guessed.columns.len ≡ length items = first_of (search rules, omega (arith, c.in_ok-guessed.guessed.columns.ok.0)) in
    let is : c.keep_given.new.columns ≡ map (with_given c.args.given.now) items = c.keep_given.ensures ∙ ap (map (with_given c.args.given.now)) c.deref_mut.ensures.value in (
      items,
      guessed_from c.args.delimiter.byte (texts c.args.nulls.now) c.args.header.now c.args.records.now _ items c.in_ok-reading.ensures.lenient c.in_ok-reading.ensures.nulls e.count e.valid e.distinct e.kept e.made e.columns e.take,
      written_back (with_given c.args.given.now) items c.keep_given.new.columns c.in_ok-guessed.guessed.columns.len long is,
    )

pub returns-clause-numbers : goal.returns-clause-numbers
returns-clause-numbers c =
    numbers_of c.args.delimiter.byte (texts c.args.nulls.now) c.args.records.now _ c.in_ok-guessed.guessed.have_numbers.items c.in_ok-reading.ensures.lenient c.in_ok-reading.ensures.nulls c.in_ok-guessed.ensures.numbers
