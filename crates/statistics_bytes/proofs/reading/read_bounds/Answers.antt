-- A lower bound that is refused, and what comes after one.
use Rattle.std.proofs.Common.{◌≡◌, Err, option_map, rules}
use Rattle.vortex_dtype.specs.TypeOf.{type_of}
use Rattle.vortex_statistics.specs.Statistics.{known_bound}
use Rattle.statistics_bytes.proofs.ReadSteps.{lower_refused, upper_refused}
use Rattle.statistics_bytes.proofs.reading.read_bounds.Goals as goal

pub returns-in_err-next-clause-refused : goal.returns-in_err-next-clause-refused
returns-in_err-next-clause-refused c =
    let is : c.from_residual.result ≡ Err c.in_err-next.field-0.0 = search rules in
    rw is (lower_refused (type_of c.args.dtype.now) c.args.flags c.args.place _ c.in_err-next.field-0.0 c.requires.ordered c.in_err-next.ensures.refused)

pub returns-in_err-read_last_bound-clause-refused : goal.returns-in_err-read_last_bound-clause-refused
returns-in_err-read_last_bound-clause-refused c =
    let is : c.from_residual-in_err-read_last_bound.result ≡ Err c.in_err-read_last_bound.field-0.0 = search rules in
    rw is (upper_refused c.keys_are_apart.ensures c.values_have_no_typed.ensures (type_of c.args.dtype.now) c.args.flags (option_map known_bound c.read_bound.new.bound) c.args.bytes.now c.args.place c.in_ok-next.next c.in_err-read_last_bound.field-0.0
    c.in_ok-next.ensures.read c.in_err-read_last_bound.ensures.refused)
