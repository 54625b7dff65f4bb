-- Where the bytes of an encoding are wrong: at its start, in its counts, or in its bounds.
use Rattle.std.proofs.Common.{◌≡◌, Err, rules}
use Rattle.vortex_dtype.specs.TypeOf.{type_of}
use Rattle.statistics_bytes.proofs.ReadSteps.{bounds_refused, counts_refused, start_refused, variant_refused}
use Rattle.statistics_bytes.proofs.reading.read_encoding.Goals as goal

pub returns-in_err-flags-clause-refused : goal.returns-in_err-flags-clause-refused
returns-in_err-flags-clause-refused c =
    let is : c.from_residual.result ≡ Err c.in_err-flags.field-0.0 = search rules in
    rw is (start_refused (type_of c.args.dtype.now) c.args.bytes.now c.in_err-flags.field-0.0 c.in_err-flags.ensures.refused)

pub returns-in_err-expect_keys_of-clause-refused : goal.returns-in_err-expect_keys_of-clause-refused
returns-in_err-expect_keys_of-clause-refused c =
    let why = c.in_err-expect_keys_of.ensures.refused in
    let is : c.from_residual-in_err-expect_keys_of.result ≡ Err c.in_err-expect_keys_of.field-0.0 = search rules in
    rw is (variant_refused (type_of c.args.dtype.now) c.args.bytes.now c.in_ok-flags.flags c.in_err-expect_keys_of.field-0.0 c.in_ok-flags.ensures.read why.0 why.1 why.2)

pub returns-in_err-counts-clause-refused : goal.returns-in_err-counts-clause-refused
returns-in_err-counts-clause-refused c =
    let why = c.in_err-counts.ensures.refused in
    let is : c.from_residual-in_err-counts.result ≡ Err c.in_err-counts.field-0.0 = search rules in
    rw is (counts_refused (type_of c.args.dtype.now) c.args.bytes.now c.in_ok-flags.flags c.in_err-counts.field-0.0 c.items_are_bytes.ensures c.in_ok-flags.ensures.read c.in_ok-expect_keys_of.ensures.ordered why.0 why.1)

pub returns-in_err-read_bounds-clause-refused : goal.returns-in_err-read_bounds-clause-refused
returns-in_err-read_bounds-clause-refused c =
    let counts = c.in_ok-counts.ensures.read in
    let is : c.from_residual-in_err-read_bounds.result ≡ Err c.in_err-read_bounds.field-0.0 = search rules in
    rw is (bounds_refused (type_of c.args.dtype.now) c.args.bytes.now c.in_ok-flags.flags c.in_ok-counts.counts.row_count c.in_ok-counts.counts.null_count c.in_ok-counts.counts.end c.in_err-read_bounds.field-0.0
    c.in_ok-flags.ensures.read c.in_ok-expect_keys_of.ensures.ordered counts.0 counts.1 c.in_err-read_bounds.ensures.refused)
