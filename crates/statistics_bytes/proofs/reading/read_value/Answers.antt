-- The key that comes, or where none goes on.
use Rattle.std.proofs.Common.{Err, ap, arith}
use Rattle.std.proofs.lemmas.List.{length-drop}
use Rattle.vortex_dtype.specs.TypeOf.{type_of}
use Rattle.statistics_bytes.proofs.ReadSteps.{key_read, key_valid, no_key}
use Rattle.statistics_bytes.proofs.reading.read_value.Goals as goal

pub overflow_add-result-in-Err-BadKey : goal.overflow_add-result-in-Err-BadKey
overflow_add-result-in-Err-BadKey c =
    let bad = (c.in-Err-BadKey.ensures.bad c.in-Err-BadKey.bad (ap Err c.in-Err-BadKey.field-0-is)).within in
    omega (arith, length-drop c.args.place c.args.bytes.now)

pub returns-in-Ok-clause-read : goal.returns-in-Ok-clause-read
returns-in-Ok-clause-read c =
    key_read c.ascending.result (type_of c.args.dtype.now) c.args.is_exact c.decode_key_into.new.scalar c.args.bytes.now c.args.place c.in-Ok.length c.ascending.ensures c.requires.ordered c.requires.within (rw c.bytes_from.ensures at c.in-Ok.ensures.decoded)

pub returns-in-Err-BadKey-clause-refused : goal.returns-in-Err-BadKey-clause-refused
returns-in-Err-BadKey-clause-refused c =
    no_key c.ascending.result (type_of c.args.dtype.now) c.args.is_exact c.args.place _ c.in-Err-BadKey.bad c.ascending.ensures
    (rw c.bytes_from.ensures at (c.in-Err-BadKey.ensures.bad c.in-Err-BadKey.bad (ap Err c.in-Err-BadKey.field-0-is)))

pub returns-in-Ok-clause-valid : goal.returns-in-Ok-clause-valid
returns-in-Ok-clause-valid c = key_valid _ _ _ c.decode_key_into.new.scalar c.in-Ok.length c.in-Ok.ensures.decoded
