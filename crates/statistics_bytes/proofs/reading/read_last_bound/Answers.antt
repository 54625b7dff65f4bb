-- A bound that is refused, and bytes after it.
use Rattle.std.proofs.Common.{◌≡◌, Err, option_map, rules}
use Rattle.vortex_dtype.specs.TypeOf.{type_of}
use Rattle.vortex_statistics.specs.Statistics.{known_bound}
use Rattle.statistics_bytes.proofs.ReadSteps.{last_refused, more_left}
use Rattle.statistics_bytes.proofs.reading.read_last_bound.Goals as goal

pub returns-in_err-end-clause-refused : goal.returns-in_err-end-clause-refused
returns-in_err-end-clause-refused c =
    let is : c.from_residual.result ≡ Err c.in_err-end.field-0.0 = search rules in
    rw is (last_refused (type_of c.args.dtype.now) c.args.state c.args.place _ c.in_err-end.field-0.0 c.requires.ordered c.in_err-end.ensures.refused)

pub returns-then-end-bytes-clause-refused : goal.returns-then-end-bytes-clause-refused
returns-then-end-bytes-clause-refused c =
    more_left c.keys_are_apart.ensures c.values_have_no_typed.ensures (type_of c.args.dtype.now) c.args.state (option_map known_bound c.read_bound.new.bound) c.args.bytes.now c.args.place c.in_ok-end.end
    c.in_ok-end.ensures.read c.if-end-bytes.true
