-- The first guesses, or those that were there, have seen one record more.
use Rattle.std.proofs.Common.{◌≡◌, ◌<◌, ◌∙◌, ◌++◌, ◌∷◌, [], List, ap, drop, length, rules, subst, sym, take, ℕ}
use Rattle.std.proofs.Math.Seq.{take-append_seam}
use Rattle.std.specs.Global.{Global}
use Rattle.std.specs.Prelude.{Err, IfOk, Ok, Result, Vec}
use Rattle.std.specs.declared.alloc.AllocError.{AllocError}
use Rattle.csv_records.specs.Rows.{Field}
use Rattle.record_rows.specs.Readings.{Reading}
use Rattle.csv_columns.specs.Guesses.{AreGuesses, See, fields_of, word_at}
use Rattle.csv_columns.specs.declared.kinds.Guess.{Guess}
use Rattle.csv_columns.proofs.Columns.{first_guessed, more_guessed}
use Rattle.csv_columns.proofs.guessing.guesses_with.Goals as goal

first_with : (d : ℕ) (reading : Reading) (row : List Field) (old : List Guess) (r : Result (Vec Guess Global) AllocError) → length old ≡ 0
    → IfOk r (λ new. length new.items ≡ length row) → IfOk r (λ new. See (λ k. word_at reading k row) new.items)
    → IfOk r (λ new. (rows : List (List Field)) → AreGuesses reading rows old → AreGuesses reading (rows ++ row ∷ []) new.items)
first_with d reading row old (Ok new) none count see = λ rows are. first_guessed d reading rows row old new.items are none count see
first_with d reading row old (Err e) none count see = tt

-- the vector after its items were written
written_back : (new old : List Guess) (n : ℕ) → length new ≡ length old → n ≡ length old → take n (new ++ drop (length new) old) ≡ new
written_back new old n same wide = ap (λ (k : ℕ). take k (new ++ drop (length new) old)) (wide ∙ sym same) ∙ take-append_seam new (drop (length new) old)

pub returns-then-is_empty : goal.returns-then-is_empty
returns-then-is_empty c =
    let d = c.args.delimiter.byte in
    let none : length c.args.guesses.items ≡ 0 = search rules in
    first_with d c.args.reading.now (fields_of d c.args.line.now) c.args.guesses.items c.first_guesses.result none c.first_guesses.ensures.count c.first_guesses.ensures.see

pub returns : goal.returns
returns c =
    let d = c.args.delimiter.byte in
    let row = fields_of d c.args.line.now in
    let old = c.args.guesses.items in
    let new = c.see_record.new.guesses in
    let some : 0 < length old = search rules in
    let wide : c.args.guesses.len ≡ length old = search rules in
    let same : length new ≡ length old = c.in_ok-see_record.ensures.count ∙ ap length c.deref_mut.ensures.value in
    λ rows are.
    subst (AreGuesses c.args.reading.now (rows ++ row ∷ [])) (sym (written_back new old c.args.guesses.len same wide))
    (more_guessed d c.args.reading.now rows row old new are some same
    (λ words see. c.in_ok-see_record.ensures.see words (subst (See words) (sym c.deref_mut.ensures.value) see)))
