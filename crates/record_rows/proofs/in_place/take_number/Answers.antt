-- A number that changes no lower bound, and is taken into the upper one.
use Rattle.std.proofs.Common.{rules, ◌≡◌, true, Some}
use Rattle.std.specs.Ordering.{int_cmp}
use Rattle.vortex_pvalue.specs.Whole.{whole_of}
use Rattle.vortex_statistics.specs.Statistics.{known_bound}
use Rattle.record_rows.proofs.Within.{is_number, number_taken}
use Rattle.record_rows.proofs.in_place.take_number.Goals as goal

pub returns-then-is_kept-clause-taken : goal.returns-then-is_kept-clause-taken
returns-then-is_kept-clause-taken c = λ yes.
    let least = c.in-Some.least.now in
    let number = c.in-Some-stored_number.number in
    let kept : c.is_kept.result ≡ true = cc in
    let order : c.partial_cmp.result ≡ Some (int_cmp (whole_of least) (whole_of number)) = grind rules in
    number_taken c.args.column c.args.word.now least number c.partial_cmp.result (known_bound c.args.lower.now) (known_bound c.args.upper.now) (known_bound c.raise_to.new.upper)
    (is_number least c.args.lower.now c.in-Some.ensures) c.requires.lower c.requires.upper c.in-Some-stored_number.ensures.means order (c.is_kept.ensures.kept kept) (c.raise_to.ensures.raised yes)
