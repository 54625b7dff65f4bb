-- One record more, and all of them.
use Rattle.std.proofs.Common.{◌≡◌, List, length, rules, subst, sym}
use Rattle.csv_columns.specs.declared.kinds.Guess.{Guess}
use Rattle.csv_columns.proofs.Columns.{Guessed, all_guessed, none_guessed, one_guessed}
use Rattle.csv_columns.proofs.guessing.guesses_of.Goals as goal

pub loop-rest-init : goal.loop-rest-init
loop-rest-init c =
    subst (λ (x : List Guess). Guessed c.args.delimiter.byte c.args.reading.now c.args.records.now c.args.records.now x) (sym c.new-guesses.ensures.items)
    (none_guessed c.args.delimiter.byte c.args.reading.now c.args.records.now)

pub loop-rest-preserved : goal.loop-rest-preserved
loop-rest-preserved c =
    one_guessed c.args.delimiter.byte c.args.reading.now c.args.records.now c.loop-rest.rest.now _ _ c.loop-rest.guesses.items _ c.loop-rest.invariant
    c.cut_record.ensures.records c.in_ok-guesses.ensures

pub returns : goal.returns
returns c =
    let short : length c.loop-rest.rest.now ≡ 0 = search rules in
    all_guessed c.args.delimiter.byte c.args.reading.now c.args.records.now c.loop-rest.rest.now c.loop-rest.guesses.items c.loop-rest.invariant short
