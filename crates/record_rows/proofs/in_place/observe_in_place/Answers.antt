-- A word that is taken into the upper bound, and its row is counted.
use Rattle.std.proofs.Common.{rules, ◌≡◌, ◌+◌, ◌<◌, ◌^◌, false, true, ap, option_map, subst, sym, ◌∙◌, ℕ, Some}
use Rattle.vortex_statistics.specs.Statistics.{IsValidBound, Known, known, known_bound, may_be_value}
use Rattle.record_rows.specs.Readings.{is_null_word}
use Rattle.record_rows.proofs.Within.{some_length, word_observed}
use Rattle.record_rows.proofs.in_place.observe_in_place.Goals as goal

pub returns-clause-observed : goal.returns-clause-observed
returns-clause-observed c = λ _.
    let s : Known = known c.args.statistics.now in
    let fits : c.args.statistics.now.row_count + 1 < 2 ^ 64 = search rules in
    let count : c.in-Some.row_count ≡ c.args.statistics.now.row_count + 1 = search rules in
    let valued : may_be_value s ≡ true = sym c.may_be_value.ensures.value ∙ first_of (search rules, cc) in
    let none : is_null_word c.args.reading.now.nulls c.args.word.now ≡ false = sym c.has_null.ensures ∙ first_of (search rules, cc) in
    let yes : c.take_word.result ≡ true = first_of (search rules, cc) in
    let after : ℕ → Known = λ n. record { row_count = n; null_count = s.null_count; lower = s.lower; upper = Some (known_bound c.take_word.new.upper) } in
    word_observed c.order_is_reversed.ensures.contents c.order_is_transitive.ensures.contents c.args.reading.now c.args.column c.args.word.now s (after c.in-Some.row_count) (known_bound c.in-Some-lower.lower) (known_bound c.in-Some-upper.upper) (known_bound c.take_word.new.upper)
    (some_length c.args.word.now c.is_empty.result c.is_empty.ensures c.if-is_empty.false) none fits (ap (option_map known_bound) c.in-Some-lower.is) (ap (option_map known_bound) c.in-Some-upper.is) valued (c.take_word.ensures.taken yes) (ap after count)

pub returns-clause-valid : goal.returns-clause-valid
returns-clause-valid c = λ valid. record { lower = valid.lower; upper = c.take_word.ensures.valid (subst IsValidBound c.in-Some-upper.is valid.upper) }

pub returns-then-not-take_word-clause-valid : goal.returns-then-not-take_word-clause-valid
returns-then-not-take_word-clause-valid c = λ valid. record { lower = valid.lower; upper = c.take_word.ensures.valid (subst IsValidBound c.in-Some-upper.is valid.upper) }
